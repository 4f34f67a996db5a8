-- PLAIN: the handle of an asked word, by a scan of the collection.
-- Specification: 9.10.
use Rattle.plain.specs.declared.Standing.{Standing}
use Rattle.collection.specs.declared.refusal.Refusal.{Refusal}
use Rattle.std.specs.Prelude.{List, ℕ, zero, suc, Err, Option, None, Some, Result, Ok}
use Rattle.lists.specs.Every.{same}
use Rattle.lists.specs.First.{first_that}
use Rattle.words.specs.Word.{spell, word_at, turn}
use Rattle.collection.specs.Collection.{Spelling, Collection, spelling_of}
use Rattle.collection.specs.declared.Side.{Side}
use Rattle.collection.specs.declared.Side.TheVariants.{Asked, Turned}
use Rattle.collection.specs.Judge.{collection_verdict, word_verdict}
use Rattle.collection.specs.Kmers.{kmers}
use Rattle.collection.specs.Verdict.{and_then, settle}

-- found at a handle, on a side
abbrev pub found_at : ℕ → Side → Option Standing
found_at handle side = Some (record { handle = handle; side = side })

-- the lowest handle whose word is w; 0 where none is
unfoldable pub lowest : Spelling → List ℕ → ℕ
lowest t w = first_that (λ a. same (word_at t.k t.letters a) w) (kmers t.k t.ends)

-- found at a handle and side, or where the handle is 0 what comes next
unfoldable pub found_or : Side → ℕ → Option Standing → Option Standing
found_or side zero next = next
found_or side (suc h) next = found_at (suc h) side

-- the lowest handle of an equal word as asked, else of an equal turned word, else absent
unfoldable pub plain_found : Spelling → List ℕ → Option Standing
plain_found t w = found_or Asked (lowest t w) (found_or Turned (lowest t (turn w)) None)

-- 2 to 6, then 9; then the answer
unfoldable pub plain_of : Collection → List ℕ → Result (Option Standing) Refusal
plain_of c word =
    settle (and_then (collection_verdict c) (word_verdict c.k word)) Err (Ok (plain_found (spelling_of c) (spell word)))

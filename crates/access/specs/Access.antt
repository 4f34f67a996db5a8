-- ACCESS: the k letters of a handle, as a part of the lent letters.
-- Specification: 9.11.
use Rattle.collection.specs.declared.refusal.Refusal.{Refusal}
use Rattle.std.specs.Prelude.{List, [], ℕ, take, drop, Ok, Err, Result}
use Rattle.collection.specs.Collection.{Spelling}
use Rattle.collection.specs.Judge.{shape_verdict, handle_verdict, kmers_in}
use Rattle.collection.specs.Kmers.{position_of}
use Rattle.collection.specs.Verdict.{and_then, settle, Verdict}

-- 2, 3, 4, 9
unfoldable pub access_verdict : Spelling → ℕ → Verdict
access_verdict t handle = and_then (shape_verdict t) (handle_verdict (kmers_in t) handle)

-- the part: the k letters from the position of the handle's k-mer on; refused, the empty part
unfoldable pub access_part : Spelling → ℕ → List ℕ
access_part t handle = settle (access_verdict t handle) (λ r. []) (take t.k (drop (position_of t.k t.ends handle) t.letters))

-- where in the lent letters the part starts: at the k-mer's position; refused, at their start
unfoldable pub access_start : Spelling → ℕ → ℕ
access_start t handle = settle (access_verdict t handle) (λ r. 0) (position_of t.k t.ends handle)

-- where the part starts, as an answer that carries the refusal
unfoldable pub access_at : Spelling → ℕ → Result ℕ Refusal
access_at t handle = settle (access_verdict t handle) Err (Ok (position_of t.k t.ends handle))

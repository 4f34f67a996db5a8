-- A judged collection is ready for a pass over its k-mers, whose words are k letters. Assumes nothing.
use mathlib.Core.Path.{◌≡◌}
use Prim.Native.Nat.{ℕ, ◌+◌, ◌≤◌}
use lib.ListN.{length}
use Rattle.lists.proofs.Every.{every-all, all-every}
use Rattle.alphabet.specs.Letter.{is_letter}
use Rattle.words.specs.Word.{Letters, word_at}
use Rattle.words.proofs.Rolling.{length_word, letters_word}
use Rattle.collection.specs.Collection.{Spelling, Collection, spelling_of}
use Rattle.collection.specs.Ready.{Ready}
use Rattle.collection.proofs.Judged.{Judged, shape_long}

-- a judged collection is ready for the pass
pub judged_ready : {c : Collection} → Judged c → Ready (spelling_of c)
judged_ready {c} j =
    record {
      ends_long = shape_long j.shape;
      ends_last = j.shape.last;
      few_letters = j.shape.letters_high;
      all_letters = all-every is_letter c.letters j.all_letters;
    }

module _ {t : Spelling} (r : Ready t) where
  -- the word of a k-mer has k letters
  pub word_length : (a : ℕ) → a + t.k ≤ length t.letters → length (word_at t.k t.letters a) ≡ t.k
  word_length a l = length_word t.k t.letters a l

  -- and each is the code of a letter
  pub word_letters : (a : ℕ) → Letters (word_at t.k t.letters a)
  word_letters a = letters_word t.k t.letters a (every-all is_letter t.letters r.all_letters)

-- Turned letters, as a loop writes them from the last one on. Assumes nothing.
use mathlib.Core.Path.{◌≡◌, subst, sym, ap, ◌∙◌}
use mathlib.Core.Bool.{true}
use mathlib.Core.List.{List, [], ◌∷◌, ◌++◌, map, map-append}
use Prim.Native.Nat.{ℕ, ◌+◌}
use lib.ListN.{length, set, length-map}
use Rattle.lists.specs.Every.{All}
use Rattle.lists.proofs.Every.{all_left, all_right}
use Rattle.lists.proofs.Storing.{Storing, store, restated}
use Rattle.alphabet.specs.Letter.{letter, is_letter, capital, two_bits, paired}
use Rattle.words.specs.Word.{spell, turn}
use Rattle.alphabet.proofs.Letters.{letter_bits}
use Rattle.words.proofs.Turning.{turn-snoc, turn-none, length-turn}
use Rattle.apply_strings.specs.Turned.{turn_letters}

pub length-turned : (letters : List ℕ) → length (turn_letters letters) ≡ length letters
unfolding turn_letters
length-turned letters = length-map (turn (spell letters)) capital ∙ (length-turn (spell letters) ∙ length-map letters letter)

-- the last letter's pair comes first
turned_last : (letters : List ℕ) (b x : ℕ) → is_letter b ≡ true → x ≡ capital (paired (two_bits b))
    → turn_letters (letters ++ (b ∷ [])) ≡ x ∷ turn_letters letters
unfolding turn_letters
turned_last letters b x g e =
    ap (λ (w : List ℕ). map capital (turn w)) (map-append letter letters (b ∷ []))
    ∙ (ap (map capital) (turn-snoc (spell letters) (letter b))
    ∙ ap (λ (y : ℕ). y ∷ map capital (turn (spell letters))) (sym (e ∙ ap (λ (y : ℕ). capital (paired y)) (letter_bits b g))))

-- where it is stored, the others are left
pub turned_store : {size at : ℕ} {table target all : List ℕ} (rest : List ℕ) (b x : ℕ) → all ≡ rest ++ (b ∷ []) → All (λ b. is_letter b ≡ true) all
    → x ≡ capital (paired (two_bits b)) → Storing size table target (turn_letters all) at
    → All (λ b. is_letter b ≡ true) rest × Storing size (set table at x) target (turn_letters rest) (at + 1)
turned_store rest b x q g e s =
    let h : All (λ b. is_letter b ≡ true) (rest ++ (b ∷ [])) = subst (All (λ b. is_letter b ≡ true)) q g in (
      all_left (λ b. is_letter b ≡ true) rest (b ∷ []) h,
      store (restated (ap turn_letters q ∙ turned_last rest b x (all_right (λ b. is_letter b ≡ true) rest (b ∷ []) h).0 e) s),
    )

pub turned_none : turn_letters [] ≡ []
unfolding turn_letters
turned_none = ap (map capital) turn-none

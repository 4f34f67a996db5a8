-- `key_of` meets its contract: the places are within the word, which has k letters. Assumes nothing.
use mathlib.Core.Path.{sym, ◌∙◌, subst}
use Prim.Native.Nat.{ℕ}
use native.Mathlib.Omega.{arith}
use lib.ListN.{length-map}
use Rattle.alphabet.specs.Letter.{capital}
use Rattle.words.specs.Turned.{spelled}
use Rattle.words.proofs.Codes.{length-spelled}
use Rattle.quick_walks.specs.Keys.{Within}
use Rattle.quick_walks.proofs.inner.key_of.Goals as goal

pub returns : goal.returns
returns c =
    let a = c.args in
    record {
      within = subst (λ (n : ℕ). Within n a.places.now) (sym (length-map (spelled a.k a.w) capital ∙ length-spelled a.k a.w)) c.requires.1;
      holds = λ t l. c.loop-t.invariant.holds t (omega arith);
    }

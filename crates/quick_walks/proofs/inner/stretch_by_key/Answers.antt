-- `stretch_by_key` meets its contract: where the key is not found, no k-mer of the stretch is the word. Assumes nothing.
use mathlib.Core.Path.{◌≡◌, sym, ◌∙◌, subst}
use mathlib.Core.List.{map}
use Prim.Native.Nat.{ℕ}
use native.Mathlib.Omega.{arith}
use lib.ListN.{length, length-map}
use Rattle.alphabet.specs.Letter.{capital}
use Rattle.words.specs.Turned.{spelled}
use Rattle.words.proofs.Codes.{length-spelled}
use Rattle.quick_walks.specs.Keys.{Within}
use Rattle.quick_walks.proofs.Keys.{not_found}
use Rattle.quick_walks.proofs.Walks.{left-none}
use Rattle.quick_walks.proofs.inner.stretch_by_key.Goals as goal

pub may_stand-requires : goal.may_stand-requires
may_stand-requires c =
    let a = c.args in
    let p = c.requires in
    let long : length (map capital (spelled a.k a.w)) ≡ a.k = length-map (spelled a.k a.w) capital ∙ length-spelled a.k a.w in
    (omega arith, omega arith, p.le_k.3, subst (λ (n : ℕ). Within n a.places.now) long p.key_of.within)

pub returns : goal.returns
returns c =
    let a = c.args in
    sym (left-none _ a.compared a.first a.at a.number
    (not_found a.k a.w a.places.now a.key.now a.letters.now a.at a.number _ c.requires.key_of
    c.may_stand.ensures c.if-may_stand.false))

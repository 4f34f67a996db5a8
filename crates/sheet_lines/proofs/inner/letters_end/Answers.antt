-- `letters_end` meets its contract: what `position` finds is the first. Assumes nothing.
use Prim.Native.Nat.{ℕ, ◌-◌}
use mathlib.Core.Path.{◌≡◌, ap}
use mathlib.Core.Bool.{true, false}
use mathlib.Core.List.{List}
use native.Mathlib.Omega.{arith}
use borrow.Author.Tests.{tests}
use lib.ListN.{length, take, drop, length-drop}
use lib.Seq.{take_all}
use Rattle.std.proofs.Common.{rules}
use Rattle.std.proofs.lemmas.Iterator.{IsFirst-from_position, YieldsList-from_slice}
use Rattle.alphabet.specs.Letter.{is_letter}
use Rattle.sheet_lines.specs.Cursor.{span}
use Rattle.sheet_lines.proofs.Letters.{span_found, span_missing}
use Rattle.sheet_lines.proofs.inner.letters_end.Goals as goal

-- the part that is searched
part : (s : List ℕ) (at : ℕ) → take (length s - at) (drop at s) ≡ drop at s
part s at = take_all (length s - at) (drop at s) (omega (arith, length-drop at s))

pub returns-in-Some : goal.returns-in-Some
returns-in-Some c =
    let s = c.args.s.now in
    let f = IsFirst-from_position _ _ _ (λ b. is_letter b ≡ false) (λ b. is_letter b ≡ true) c.in-Some.ensures.ran
    (YieldsList-from_slice _ c.iter.ensures.rest) (λ x q k. search (rules, tests)) (λ x q k. search (rules, tests)) in
    let p = part s c.args.at in
    (omega (arith, span_found _ _ f, ap span p), omega (arith, f.0, ap length p, length-drop c.args.at s))

pub returns-in-None : goal.returns-in-None
returns-in-None c =
    let s = c.args.s.now in
    let f = IsFirst-from_position _ _ _ (λ b. is_letter b ≡ false) (λ b. is_letter b ≡ true) c.in-None.ensures.ran
    (YieldsList-from_slice _ c.iter.ensures.rest) (λ x q k. search (rules, tests)) (λ x q k. search (rules, tests)) in
    let p = part s c.args.at in
    (omega (arith, span_missing _ f, ap span p, ap length p, length-drop c.args.at s), omega arith)

-- `string_of` meets its contract. Invariant: the string that is sought is one of low to high. Assumes nothing.
use native.Mathlib.Omega.{arith}
use Rattle.access.proofs.Located.{some-string, halving_begins, halving_ends}
use Rattle.access.proofs.locating.string_of.Goals as goal

pub overflow_sub-high : goal.overflow_sub-high
overflow_sub-high c = some-string _ _ _ c.requires.le_handle.0 c.requires.le_handle.1

pub loop-low-init : goal.loop-low-init
loop-low-init c = halving_begins _ _ _ c.requires.le_handle.0 c.requires.le_handle.1

pub kmers_up_to-requires : goal.kmers_up_to-requires
kmers_up_to-requires c = record { long = c.requires.long; i_in_bounds = omega (arith, c.loop-low.invariant.inside) }

pub overflow_add-low : goal.overflow_add-low
overflow_add-low c = omega (arith, c.loop-low.invariant.inside)

pub loop-low-preserved-then-kmers_up_to-handle : goal.loop-low-preserved-then-kmers_up_to-handle
loop-low-preserved-then-kmers_up_to-handle c =
    let w = c.loop-low.invariant in
    record {
      order = omega arith;
      inside = w.inside;
      before = omega (arith, c.kmers_up_to.ensures);
      up_to = w.up_to;
    }

pub loop-low-preserved : goal.loop-low-preserved
loop-low-preserved c =
    let w = c.loop-low.invariant in
    record {
      order = omega arith;
      inside = omega (arith, w.inside);
      before = w.before;
      up_to = omega (arith, c.kmers_up_to.ensures);
    }

pub returns : goal.returns
returns c = halving_ends c.loop-low.invariant c.loop-low-test.false

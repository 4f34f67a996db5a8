-- `kmers_up_to` meets its contract: each string up to string i has k - 1 letters more than k-mers. Assumes nothing.
use native.Mathlib.Omega.{arith}
use Rattle.collection.proofs.Kmers.{up_to_count}
use Rattle.access.proofs.locating.kmers_up_to.Goals as goal

pub overflow_cast-result : goal.overflow_cast-result
overflow_cast-result c = omega (arith, c.shared_slice_known-1.given c.args.i)

pub overflow_mul-result : goal.overflow_mul-result
overflow_mul-result c = omega (arith, up_to_count c.requires.long c.args.i c.requires.i_in_bounds, c.shared_slice_known-1.given c.args.i)

pub overflow_sub-result-2 : goal.overflow_sub-result-2
overflow_sub-result-2 c = omega (arith, up_to_count c.requires.long c.args.i c.requires.i_in_bounds)

pub returns : goal.returns
returns c = omega (arith, up_to_count c.requires.long c.args.i c.requires.i_in_bounds)

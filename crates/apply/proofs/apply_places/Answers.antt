-- `apply_places` meets its contract: good places mark work as the strings are to stand. Assumes nothing.
use Rattle.apply.proofs.Applying.{placeable}
use Rattle.apply.proofs.apply_places.Goals as goal

pub place_strings-requires-clause-placeable : goal.place_strings-requires-clause-placeable
place_strings-requires-clause-placeable c = placeable c.judge_places.ensures c.in_default.is c.requires

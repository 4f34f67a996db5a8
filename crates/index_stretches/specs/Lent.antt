-- The index that lent tables hold.
-- Specification: 6.3.
use Rattle.index_stretches.specs.Index as meant
use Rattle.index_stretches.specs.declared.Index.{Index}

-- the index in four lent tables
abbrev pub index_in : Index → meant.Index
index_in i = meant.tables i.firsts.now i.positions.now i.numbers.now i.before.now

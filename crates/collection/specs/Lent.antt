-- The collection that lent tables hold.
-- Specification: 3.1.
use Rattle.collection.specs.Collection as meant
use Rattle.collection.specs.declared.tables.Spelling.{Spelling}
use Rattle.collection.specs.declared.tables.Collection.{Collection}

-- the spelling in lent letters and ends
abbrev pub spelling_in : Spelling → meant.Spelling
spelling_in s = meant.spelling s.k s.letters.now s.ends.now

-- the collection in lent letters, ends and weights
abbrev pub collection_in : Collection → meant.Collection
collection_in c = meant.collection c.k c.letters.now c.ends.now c.weights.now

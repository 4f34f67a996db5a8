-- Inner: what judging the places gives: the verdict, and in work, where it is good, the string of each place.
use Rattle.collection.specs.Verdict.{Verdict, good}
use Rattle.std.specs.Prelude.{◌≡◌, List, map, ℕ, ℤ, nat_abs, length, drop}
use Rattle.apply_places.specs.Marks.{Marks}
use Rattle.apply_places.specs.Places.{places_verdict}

pub record PlacesJudged (m : ℕ) (places : List ℤ) (before after : List ℕ) (verdict : Verdict) : Type 0 where
  pub judged : verdict ≡ places_verdict m places
  pub size : length after ≡ length before
  pub rest : drop m after ≡ drop m before
  pub marked : verdict ≡ good → Marks m after (map nat_abs places)

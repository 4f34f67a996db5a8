-- The values for each case of a call's answer. A refusal is told by its number and its place, and is handed on.
-- Specification: 11.
use Rattle.std.specs.Prelude.{ℕ, Result, Ok, Err, Option, Some, None}
use Rattle.collection.specs.declared.refusal.Refusal.{Refusal}
use Rattle.collection.specs.declared.refusal.Told.{Told}
use Rattle.collection.specs.Verdict.{told}
use Rattle.collection.specs.declared.Side.{Side}
use Rattle.collection.specs.declared.Side.TheVariants.{Asked, Turned}
use Rattle.sheet.specs.declared.Filled as sheet
use Rattle.cover.specs.declared.Covered.{Covered}
use Rattle.apply.specs.declared.Filled as apply
use Rattle.plain.specs.declared.Standing.{Standing}
use Rattle.index.specs.declared.Indexed.{Indexed}
use Rattle.quick.specs.declared.QuickAnswer.{QuickAnswer}
use Rattle.quick.specs.declared.QuickAnswer.TheVariants.{Found, Absent}
use Rattle.exports_replies.specs.declared.Reply.{Reply}
use Rattle.exports_replies.specs.declared.Reply.TheVariants.{One, Two, Three, Four}

-- + is 0, - is 1
abbrev pub side_of : Side → ℕ
side_of Asked = 0
side_of Turned = 1

-- a call's answer as it is told: the same, but a refusal is its number and its place
abbrev pub as_told : {A : Type 0} → Result A Refusal → Result A Told
as_told (Ok a) = Ok a
as_told (Err r) = Err (told (Err r))

-- READ: k, and how many letters, ends and weights were filled
abbrev pub read_told : Result sheet.Filled Told → Result Reply Told
read_told (Ok f) = Ok (Four f.k f.letters f.ends f.weights)
read_told (Err t) = Err t

-- and of the call's own answer
abbrev pub read_reply : Result sheet.Filled Refusal → Result Reply Told
read_reply answer = read_told (as_told answer)

-- WRITE: how many bytes were written; CHECK: how many k-mers were looked at; RUNS: how many runs were filled in each table
abbrev pub count_told : Result ℕ Told → Result Reply Told
count_told (Ok n) = Ok (One n)
count_told (Err t) = Err t

-- and of the call's own answer
abbrev pub count_reply : Result ℕ Refusal → Result Reply Told
count_reply answer = count_told (as_told answer)

-- COVER: the paths, and how many places were filled
abbrev pub cover_told : Result Covered Told → Result Reply Told
cover_told (Ok c) = Ok (Two c.paths c.places)
cover_told (Err t) = Err t

-- and of the call's own answer
abbrev pub cover_reply : Result Covered Refusal → Result Reply Told
cover_reply answer = cover_told (as_told answer)

-- APPLY: how many letters, ends and weights were filled
abbrev pub apply_told : Result apply.Filled Told → Result Reply Told
apply_told (Ok f) = Ok (Three f.letters f.ends f.weights)
apply_told (Err t) = Err t

-- and of the call's own answer
abbrev pub apply_reply : Result apply.Filled Refusal → Result Reply Told
apply_reply answer = apply_told (as_told answer)

-- WEIGHT: the weight
abbrev pub weight_told : Result ℕ Told → Result Reply Told
weight_told (Ok w) = Ok (One w)
weight_told (Err t) = Err t

-- and of the call's own answer
abbrev pub weight_reply : Result ℕ Refusal → Result Reply Told
weight_reply answer = weight_told (as_told answer)

-- ACCESS: the position of the first of the k letters, and k
abbrev pub access_told : ℕ → Result ℕ Told → Result Reply Told
access_told k (Ok position) = Ok (Two position k)
access_told k (Err t) = Err t

-- and of the call's own answer
abbrev pub access_reply : ℕ → Result ℕ Refusal → Result Reply Told
access_reply k answer = access_told k (as_told answer)

-- PLAIN: the handle and the side; absent, handle 0
abbrev pub plain_told : Result (Option Standing) Told → Result Reply Told
plain_told (Ok (Some s)) = Ok (Two s.handle (side_of s.side))
plain_told (Ok None) = Ok (Two 0 0)
plain_told (Err t) = Err t

-- and of the call's own answer
abbrev pub plain_reply : Result (Option Standing) Refusal → Result Reply Told
plain_reply answer = plain_told (as_told answer)

-- INDEX: how many stretches were filled in each of three tables, and how many entries in the fourth
abbrev pub index_told : Result Indexed Told → Result Reply Told
index_told (Ok i) = Ok (Two i.stretches i.starts)
index_told (Err t) = Err t

-- and of the call's own answer
abbrev pub index_reply : Result Indexed Refusal → Result Reply Told
index_reply answer = index_told (as_told answer)

-- QUICK: the handle, the side and the number compared; absent, handle 0
abbrev pub quick_told : Result QuickAnswer Told → Result Reply Told
quick_told (Ok (Found handle side compared)) = Ok (Three handle (side_of side) compared)
quick_told (Ok (Absent compared)) = Ok (Three 0 0 compared)
quick_told (Err t) = Err t

-- and of the call's own answer
abbrev pub quick_reply : Result QuickAnswer Refusal → Result Reply Told
quick_reply answer = quick_told (as_told answer)

-- the weight of a word: 1 and the weight; absent, 0 and 0
abbrev pub weigh_told : Result (Option ℕ) Told → Result Reply Told
weigh_told (Ok (Some w)) = Ok (Two 1 w)
weigh_told (Ok None) = Ok (Two 0 0)
weigh_told (Err t) = Err t

-- and of the call's own answer
abbrev pub weigh_reply : Result (Option ℕ) Refusal → Result Reply Told
weigh_reply answer = weigh_told (as_told answer)

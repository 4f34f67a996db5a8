-- A choice by a test.
use Rattle.std.specs.Prelude.{Bool, true, false}

-- a where the test holds, else b
abbrev pub choose {ℓ} : {A : Type ℓ} → Bool → A → A → A
choose true a b = a
choose false a b = b

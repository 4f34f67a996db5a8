-- The index: four tables, the rows that they hold, and when they do not fit (10). Minimizers are the numbers below d.
-- Specification: 6.3, 6.4.
use Rattle.std.specs.Prelude.{Bool, ◌&&◌, List, [], ◌∷◌, map, ℕ, zero, suc, ◌+◌, ◌-◌, eqb, leb, length, get_or}
use Rattle.lists.specs.Count.{count_from}
use Rattle.lists.specs.Every.{every}
use Rattle.lists.specs.Pick.{up_to}
use Rattle.lists.specs.Limits.{most_letters}
use Rattle.index_stretches.specs.Stretches.{Stretch, stretch, stretches}

-- Per stretch its first handle, the position of its first letter and its number of k-mers; and how many stretches stand before each minimizer, last the total.
pub record Index : Type 0 where
  pub firsts : List ℕ
  pub positions : List ℕ
  pub numbers : List ℕ
  pub before : List ℕ

abbrev pub tables : List ℕ → List ℕ → List ℕ → List ℕ → Index
tables firsts positions numbers before = record { firsts = firsts; positions = positions; numbers = numbers; before = before }

-- ─── building ────────────────────────────────────────────────────────────────

-- the stretches by their minimizer, those of one minimizer in the order of their handles
abbrev pub arranged : (ℕ → ℕ) → ℕ → List Stretch → List Stretch
arranged q d ss = up_to (λ s. q s.at) d ss

-- the index of stretches
unfoldable pub built : (ℕ → ℕ) → ℕ → List Stretch → Index
built q d ss =
    tables (map (λ s. s.first) (arranged q d ss)) (map (λ s. s.at) (arranged q d ss)) (map (λ s. s.number) (arranged q d ss))
    (map (λ i. length (arranged q i ss)) (count_from 0 (d + 1)))

-- the index of a collection
abbrev pub indexed : (ℕ → ℕ) → ℕ → ℕ → List ℕ → Index
indexed q d k ends = built q d (stretches q k ends)

-- ─── reading ─────────────────────────────────────────────────────────────────

-- stretch i (from 0) of the tables
abbrev pub entry : Index → ℕ → Stretch
entry t i = stretch (get_or t.firsts i 0) (get_or t.positions i 0) (get_or t.numbers i 0)

-- the n stretches from stretch i on
unfoldable pub entries : Index → ℕ → ℕ → List Stretch
entries t i zero = []
entries t i (suc n) = entry t i ∷ entries t (suc i) n

-- how many stretches stand before the minimizer v
abbrev pub start : Index → ℕ → ℕ
start t v = get_or t.before v 0

-- the row of the minimizer v: the stretches from its start up to the next one's
unfoldable pub row_of : Index → ℕ → List Stretch
row_of t v = entries t (start t v) (start t (suc v) - start t v)

-- ─── 10 ──────────────────────────────────────────────────────────────────────

-- A stretch fits N letters: no handle 0, no number 0, no last handle above 1,048,576, no letters beyond N. The last handle is first + number - 1, and the last
-- letter is letter at + number + k - 1.
unfoldable pub stretch_fits : ℕ → ℕ → Stretch → Bool
stretch_fits k N s = leb 1 s.first && (leb 1 s.number && (leb (s.first + s.number) (most_letters + 1) && leb (s.at + s.number + k) (N + 1)))

-- a row fits: its start does not exceed its end, nor its end the tables, and each of its stretches fits
unfoldable pub row_fits : ℕ → ℕ → Index → ℕ → Bool
row_fits k N t v = leb (start t v) (start t (suc v)) && (leb (start t (suc v)) (length t.firsts) && every (stretch_fits k N) (row_of t v))

-- the fourth table is d + 1 long, and the other three are equally long, 1,048,576 at most
unfoldable pub tables_fit : ℕ → Index → Bool
tables_fit d t =
    eqb (length t.before) (d + 1)
    && (eqb (length t.positions) (length t.firsts) && (eqb (length t.numbers) (length t.firsts) && leb (length t.firsts) most_letters))

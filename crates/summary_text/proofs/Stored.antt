-- Lines of a label and a number: how long they are, and how they are stored. Assumes nothing.
use mathlib.Core.Path.{◌≡◌, refl, sym, ap, ◌∙◌}
use mathlib.Core.List.{List, [], ◌∷◌, ◌++◌, append_assoc}
use Prim.Native.Nat.{ℕ, ◌+◌, ◌-◌, ◌<◌, ◌≤◌}
use native.Mathlib.Omega.{arith}
use lib.ListN.{length, take, drop, set, length-append}
use lib.Seq.{take_all}
use Rattle.lists.specs.Fill.{put, fill}
use Rattle.lists.proofs.Puts.{put_only}
use Rattle.lists.proofs.Storing.{Storing, begin_at, begin, inside, store, restated, stored}
use Rattle.text.specs.Numbers.{digits}
use Rattle.text.specs.Parts.{tab, feed}
use Rattle.text.proofs.Blocks.{block_room, store_block}
use Rattle.summary_text.specs.declared.Numbers.{Numbers}
use Rattle.summary_text.specs.Text.{
  entry,
  line,
  lines,
  strings_label,
  kmers_label,
  total_label,
  inner_label,
  given_label,
  paths_label,
  least_label,
  distinct_label,
  bits_label,
  refused_label,
  counted_text,
  refused_text,
}

-- ─── how long ────────────────────────────────────────────────────────────────

entry_length : (label : List ℕ) (n : ℕ) → length (entry label n) ≡ length label + 1 + length (digits n)
unfolding entry
entry_length label n = omega (arith, length-append label (tab ∷ digits n))

line-length : (label : List ℕ) (n : ℕ) → length (line label n) ≡ length label + 2 + length (digits n)
unfolding line
line-length label n = omega (arith, length-append (entry label n) (feed ∷ []), entry_length label n)

lines_more : (label : List ℕ) (n : ℕ) (ls : List (List ℕ × ℕ)) → length (lines ((label, n) ∷ ls)) ≡ length (line label n) + length (lines ls)
unfolding lines
lines_more label n ls = length-append (line label n) (lines ls)

lines-append : (xs ys : List (List ℕ × ℕ)) → lines (xs ++ ys) ≡ lines xs ++ lines ys
unfolding lines
lines-append [] ys = refl
lines-append (x ∷ xs) ys = ap (λ (r : List ℕ). line x.0 x.1 ++ r) (lines-append xs ys) ∙ sym (append_assoc (line x.0 x.1) (lines xs) (lines ys))

lines_none : length (lines []) ≡ 0
unfolding lines
lines_none = refl

module _ (l₁ : List ℕ) (n₁ : ℕ) (l₂ : List ℕ) (n₂ : ℕ) (l₃ : List ℕ) (n₃ : ℕ) where
  abbrev three : List (List ℕ × ℕ)
  three = (l₁, n₁) ∷ (l₂, n₂) ∷ (l₃, n₃) ∷ []

  three_lines : length (lines three) ≡ length (line l₁ n₁) + length (line l₂ n₂) + length (line l₃ n₃)
  three_lines = omega (arith, lines_more l₁ n₁ ((l₂, n₂) ∷ (l₃, n₃) ∷ []), lines_more l₂ n₂ ((l₃, n₃) ∷ []), lines_more l₃ n₃ [], lines_none)

  three_length : length (lines three) ≡ length l₁ + length l₂ + length l₃ + (length (digits n₁) + length (digits n₂) + length (digits n₃) + 6)
  three_length = omega (arith, three_lines, line-length l₁ n₁, line-length l₂ n₂, line-length l₃ n₃)

module _ (n : Numbers) where
  abbrev first_three : List (List ℕ × ℕ)
  first_three = three strings_label n.strings kmers_label n.kmers total_label n.total

  abbrev next_three : List (List ℕ × ℕ)
  next_three = three inner_label n.inner given_label n.given paths_label n.paths

  abbrev last_three : List (List ℕ × ℕ)
  last_three = three least_label n.least distinct_label n.distinct bits_label n.bits

  -- the nine lines are three times three
  nine_parts : counted_text n ≡ lines first_three ++ (lines next_three ++ lines last_three)
  unfolding counted_text
  nine_parts = lines-append first_three (next_three ++ last_three) ∙ ap (λ (r : List ℕ). lines first_three ++ r) (lines-append next_three last_three)

  nine_lines : length (counted_text n) ≡ length (lines first_three) + (length (lines next_three) + length (lines last_three))
  nine_lines = omega (
    arith,
    ap length nine_parts,
    length-append (lines first_three) (lines next_three ++ lines last_three),
    length-append (lines next_three) (lines last_three),
  )

  -- the nine labels have 49 letters
  pub counted-length : {a b c : ℕ} → a ≡ length (digits n.strings) + length (digits n.kmers) + length (digits n.total) + 6
      → b ≡ length (digits n.inner) + length (digits n.given) + length (digits n.paths) + 6
      → c ≡ length (digits n.least) + length (digits n.distinct) + length (digits n.bits) + 6
      → 49 + a + b + c ≡ length (counted_text n)
  counted-length p q r =
      omega (
        arith,
        p,
        q,
        r,
        nine_lines,
        three_length strings_label n.strings kmers_label n.kmers total_label n.total,
        three_length inner_label n.inner given_label n.given paths_label n.paths,
        three_length least_label n.least distinct_label n.distinct bits_label n.bits,
      )

-- `refused`, two tabs and a feed are ten bytes
pub refused_length : (number place : ℕ) {a b : ℕ} → a ≡ length (digits number) → b ≡ length (digits place) → 10 + a + b ≡ length (refused_text number place)
unfolding refused_text
refused_length number place p q =
    omega (arith, p, q, length-append (entry refused_label number) (line [] place), entry_length refused_label number, line-length [] place)

-- ─── an entry ────────────────────────────────────────────────────────────────

whole : (l : List ℕ) → take (length l - 0) (drop 0 l) ≡ l
whole l = take_all (length l - 0) l (omega arith)

module _ (label : List ℕ) (n at : ℕ) (out : List ℕ) (room : at + length (entry label n) ≤ length out) where
  entry_begun : Storing (length out) out (put at (entry label n) out) (label ++ (tab ∷ digits n)) at
  unfolding entry
  entry_begun = begin_at at out (entry label n) room

  -- the label fits, then the tab, then the number
  pub label_room : at + (length label - 0) ≤ length out
  label_room = omega (arith, entry_length label n)

  module _ {out₁ : List ℕ} (f : out₁ ≡ put at (take (length label - 0) (drop 0 label)) out) where
    labelled : Storing (length out) out₁ (put at (entry label n) out) (tab ∷ digits n) (at + length label)
    labelled = store_block label (tab ∷ digits n) entry_begun (f ∙ ap (λ (l : List ℕ). put at l out) (whole label)) refl

    pub tab_inside : at + length label < length out₁
    tab_inside = inside labelled

    pub digits_room : at + length label + 1 + length (digits n) ≤ length (set out₁ (at + length label) tab)
    digits_room = (store labelled).room

    -- the table keeps its length
    pub entry_size : {out₂ : List ℕ} → out₂ ≡ put (at + length label + 1) (digits n) (set out₁ (at + length label) tab) → length out₂ ≡ length out
    entry_size g = ap length g ∙ ((put_only (at + length label + 1) (digits n) (set out₁ (at + length label) tab) digits_room).size
        ∙ (store labelled).size_kept)

    -- label, tab and number are the entry
    pub entry_end : {p : ℕ} {out₂ : List ℕ} → p ≡ at + length label + 1 + length (digits n)
        → out₂ ≡ put (at + length label + 1) (digits n) (set out₁ (at + length label) tab)
        → (p ≡ at + length (entry label n)) × (out₂ ≡ put at (entry label n) out)
    entry_end q g = (omega (arith, q, entry_length label n), g ∙ (store labelled).ends)

-- ─── a line ──────────────────────────────────────────────────────────────────

module _ (label : List ℕ) (n at : ℕ) (out : List ℕ) (room : at + length (line label n) ≤ length out) where
  line_begun : Storing (length out) out (put at (line label n) out) (entry label n ++ (feed ∷ [])) at
  unfolding line
  line_begun = begin_at at out (line label n) room

  -- the entry fits, then the line feed
  pub entry_room : at + length (entry label n) ≤ length out
  entry_room = block_room (entry label n) (feed ∷ []) line_begun

  module _ {p : ℕ} {out₁ : List ℕ} (q : p ≡ at + length (entry label n)) (f : out₁ ≡ put at (entry label n) out) where
    ended : Storing (length out) out₁ (put at (line label n) out) (feed ∷ []) p
    ended = store_block (entry label n) (feed ∷ []) line_begun f q

    pub feed_inside : p < length out₁
    feed_inside = inside ended

    -- they are the line
    pub line_end : (p + 1 ≡ at + length (line label n)) × (set out₁ p feed ≡ put at (line label n) out)
    line_end = (omega (arith, q, entry_length label n, line-length label n), stored (store ended))

-- ─── lines ───────────────────────────────────────────────────────────────────

-- the lines ls are still to be stored, from p on, and end at `total`
pub record Lining (size total : ℕ) (target : List ℕ) (ls : List (List ℕ × ℕ)) (out : List ℕ) (p : ℕ) : Type 0 where
  pub storing : Storing size out target (lines ls) p
  pub place : p + length (lines ls) ≡ total

-- at the start none is stored
pub lining : (ls : List (List ℕ × ℕ)) (at : ℕ) (out : List ℕ) → at + length (lines ls) ≤ length out
    → Lining (length out) (at + length (lines ls)) (put at (lines ls) out) ls out at
lining ls at out h = record { storing = begin_at at out (lines ls) h; place = refl }

module _ {size total : ℕ} {target : List ℕ} {label : List ℕ} {n : ℕ} {ls : List (List ℕ × ℕ)} {out : List ℕ} {p : ℕ}
    (s : Lining size total target ((label, n) ∷ ls) out p) where
  here : Storing size out target (line label n ++ lines ls) p
  unfolding lines
  here = s.storing

  pub line_room : p + length (line label n) ≤ length out
  line_room = block_room (line label n) (lines ls) here

  -- one line more is stored
  pub lined : {p' : ℕ} {out' : List ℕ} → p' ≡ p + length (line label n) → out' ≡ put p (line label n) out → Lining size total target ls out' p'
  lined q f = record { storing = store_block (line label n) (lines ls) here f q; place = omega (arith, q, s.place, lines_more label n ls) }

-- at the end all are
pub lined_all : {size total : ℕ} {target out : List ℕ} {p : ℕ} → Lining size total target [] out p → (p ≡ total) × (out ≡ target)
unfolding lines
lined_all s = (omega (arith, s.place, lines_none), stored s.storing)

-- ─── nine lines ──────────────────────────────────────────────────────────────

module _ (n : Numbers) (text : List ℕ) (room : length (counted_text n) ≤ length text) where
  abbrev target : List ℕ
  target = fill (counted_text n) text

  abbrev first_lines : List ℕ
  first_lines = lines (three strings_label n.strings kmers_label n.kmers total_label n.total)

  abbrev next_lines : List ℕ
  next_lines = lines (three inner_label n.inner given_label n.given paths_label n.paths)

  abbrev last_lines : List ℕ
  last_lines = lines (three least_label n.least distinct_label n.distinct bits_label n.bits)

  counted_begun : Storing (length text) text target (first_lines ++ (next_lines ++ last_lines)) 0
  counted_begun = restated (nine_parts n) (begin text (counted_text n) room)

  -- each three of them fit
  pub first_room : 0 + length first_lines ≤ length text
  first_room = block_room first_lines (next_lines ++ last_lines) counted_begun

  module _ {p₁ : ℕ} {text₁ : List ℕ} (q₁ : p₁ ≡ 0 + length first_lines) (f₁ : text₁ ≡ put 0 first_lines text) where
    first_stored : Storing (length text) text₁ target (next_lines ++ last_lines) p₁
    first_stored = store_block first_lines (next_lines ++ last_lines) counted_begun f₁ q₁

    pub next_room : p₁ + length next_lines ≤ length text₁
    next_room = block_room next_lines last_lines first_stored

    module _ {p₂ : ℕ} {text₂ : List ℕ} (q₂ : p₂ ≡ p₁ + length next_lines) (f₂ : text₂ ≡ put p₁ next_lines text₁) where
      next_stored : Storing (length text) text₂ target last_lines p₂
      next_stored = store_block next_lines last_lines first_stored f₂ q₂

      pub last_room : p₂ + length last_lines ≤ length text₂
      last_room = next_stored.room

      -- all nine are the text
      pub counted_end : {p₃ : ℕ} {text₃ : List ℕ} → p₃ ≡ p₂ + length last_lines → text₃ ≡ put p₂ last_lines text₂
          → (p₃ ≡ length (counted_text n)) × (text₃ ≡ target)
      counted_end q₃ f₃ = (omega (arith, q₁, q₂, q₃, nine_lines n), f₃ ∙ next_stored.ends)

-- ─── a refusal ───────────────────────────────────────────────────────────────

module _ (number place : ℕ) (text : List ℕ) (room : length (refused_text number place) ≤ length text) where
  refused_begun : Storing (length text) text (fill (refused_text number place) text) (entry refused_label number ++ line [] place) 0
  unfolding refused_text
  refused_begun = begin text (refused_text number place) room

  -- the number fits, then the place
  pub number_room : 0 + length (entry refused_label number) ≤ length text
  number_room = block_room (entry refused_label number) (line [] place) refused_begun

  module _ {p : ℕ} {text₁ : List ℕ} (q : p ≡ 0 + length (entry refused_label number)) (f : text₁ ≡ put 0 (entry refused_label number) text) where
    number_stored : Storing (length text) text₁ (fill (refused_text number place) text) (line [] place) p
    number_stored = store_block (entry refused_label number) (line [] place) refused_begun f q

    pub place_room : p + length (line [] place) ≤ length text₁
    place_room = number_stored.room

    -- they are the text of a refusal
    pub refused_end : {p' : ℕ} {text₂ : List ℕ} → p' ≡ p + length (line [] place) → text₂ ≡ put p (line [] place) text₁
        → (p' ≡ length (refused_text number place)) × (text₂ ≡ fill (refused_text number place) text)
    unfolding refused_text
    refused_end q' f' = (omega (arith, q, q', length-append (entry refused_label number) (line [] place)), f' ∙ number_stored.ends)

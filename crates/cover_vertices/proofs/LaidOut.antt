-- The table that the stages leave is ready for the walks.
use mathlib.Core.Path.{◌≡◌, ap, ap₂, sym, ◌∙◌, subst}
use mathlib.Core.List.{List, [], ◌++◌}
use Prim.Native.Nat.{ℕ, ◌+◌, ◌-◌, ◌*◌, ◌%◌, ◌<◌, ◌≤◌}
use native.Mathlib.Omega.{arith}
use native.Mathlib.Decide.{dec_lt}
use lib.ListN.{length, get_or, take, drop, length-append, drop_of_length-le, get_or-append, get_or-eq_default}
use lib.Seq.{get_or-append-add, drop-drop, take_at, drop_at}
use Rattle.lists.specs.Count.{count_from}
use Rattle.lists.specs.Every.{All}
use Rattle.lists.specs.Pick.{sort_by}
use Rattle.lists.specs.Regions.{part}
use Rattle.lists.proofs.Every.{at_all}
use Rattle.lists.proofs.Regions.{part_length}
use Rattle.sorting.specs.Keys.{key_at}
use Rattle.cover_trails.specs.Counting.{occurs, oddly}
use Rattle.cover_trails.specs.Strings.{Ends, weights}
use Rattle.cover_trails.specs.Renamed.{Renamed}
use Rattle.cover_trails.specs.Hub.{spoked}
use Rattle.cover_trails.specs.Walks.{Reordered, both, AllEven}
use Rattle.cover_trails.proofs.Counting.{AllBelow, occurs_beyond}
use Rattle.cover_trails.proofs.Hub.{spokes_to, spoked_even, spoked_listed}
use Rattle.cover_trails.proofs.Orders.{occurs-reordered, swapped}
use Rattle.cover_tours.specs.Layout.{Tables, tables}
use Rattle.cover_tours.specs.Halves.{near, unused, numbered}
use Rattle.cover_tours.specs.Rows.{Graph, Cursors}
use Rattle.cover_tours.specs.States.{left, strings, Begun}
use Rattle.cover_tours.proofs.Halves.{near-string}
use Rattle.cover_tours.proofs.Tours.{hub_fresh}
use Rattle.cover_vertices.specs.Firsts.{first_of, keyed}
use Rattle.cover_vertices.specs.Ladder.{ladder}
use Rattle.cover_vertices.specs.Promises.{ends_from, Named, Marked, LaidOut}
use Rattle.cover_vertices.proofs.LaidRows.{vert_low, laid_graph}
use Rattle.cover_vertices.proofs.Names.{weights-numbered, laid_renamed}
use Rattle.cover_vertices.proofs.Ladder.{length-ladder, ladder_at}
use Rattle.cover_vertices.proofs.Ordering.{in_order, order_length}
use Rattle.cover_vertices.proofs.Spokes.{unused-append, unused-none, unused_few, zeros, unused-spokes, zeros_odd}

-- ─── the table ───────────────────────────────────────────────────────────────

-- The regions hold these lists: the vertices, the flags of strings and of spokes, the rows, and the cursors at the starts of the rows.
module _ (m : ℕ) (keys verts flags stack : List ℕ) where
  -- the tables with these regions
  abbrev pub laid_tables : Tables
  laid_tables = record {
    verts = verts;
    used = ladder 0 0 m ++ flags;
    rows = in_order m keys ++ ladder (2 * m) 2 (2 * m);
    cursors = ladder 0 1 (3 * m);
    stack = stack;
  }

module _ (m : ℕ) (keys verts flags stack : List ℕ) (some : 1 ≤ m)
    (named : (q : ℕ) → q < 2 * m → get_or verts (get_or (in_order m keys) q 0) 0 ≡ first_of (keyed keys (in_order m keys)) q)
    (lv : length verts ≡ 2 * m) (lf : length flags ≡ 2 * m) (ls : length stack ≡ 3 * m)
    (odd : (x : ℕ) → x < 2 * m → (get_or flags x 0 + occurs x verts) % 2 ≡ 1) (low : (x : ℕ) → x < 2 * m → get_or flags x 0 ≤ 1) where
  abbrev laid : Tables
  laid = laid_tables m keys verts flags stack

  graph : Graph m verts (in_order m keys ++ ladder (2 * m) 2 (2 * m))
  graph = laid_graph m keys verts named

  string-ends : weights (strings m laid) ≡ verts
  string-ends = weights-numbered (near m verts) m verts lv (λ c l. near-string m verts c l)

  used_size : length (ladder 0 0 m ++ flags) ≡ 3 * m
  used_size = omega (arith, length-append (ladder 0 0 m) flags, length-ladder 0 0 m)

  string_flag : (e : ℕ) → e < m → get_or (ladder 0 0 m ++ flags) e 0 ≡ 0
  string_flag e l =
      get_or-append (ladder 0 0 m) flags 0 e (omega (arith, length-ladder 0 0 m)) ∙ (ladder_at 0 0 m e l ∙ omega arith)

  flag_low : (e : ℕ) → get_or (ladder 0 0 m ++ flags) e 0 ≤ 1
  flag_low e = go (dec_lt e m) (dec_lt e (3 * m))
    where
      go : Dec (e < m) → Dec (e < 3 * m) → get_or (ladder 0 0 m ++ flags) e 0 ≤ 1
      go (yes p) d = rw (string_flag e p) (omega arith)
      go (no p) (yes d) =
          let q : e ≡ length (ladder 0 0 m) + (e - m) = omega (arith, length-ladder 0 0 m) in
          rw (q, get_or-append-add (ladder 0 0 m) flags (e - m) 0) (low (e - m) (omega arith))
      go (no p) (no d) = let l : length (ladder 0 0 m ++ flags) ≤ e = omega (arith, used_size) in
          rw (get_or-eq_default (ladder 0 0 m ++ flags) 0 l) (omega arith)

  -- what is unused: the strings, and the spokes to odd vertices
  left_is : left m laid ≡ strings m laid ++ spokes_to (2 * m) (zeros 0 flags)
  left_is =
      unused-append (near m verts) 0 (ladder 0 0 m) flags
      ∙ ap₂ (λ (A B : List Ends). A ++ B) (unused-none (near m verts) 0 m) (ap (λ (e : ℕ). unused (near m verts) e flags) here ∙ unused-spokes m verts 0 flags)
    where
      here : 0 + length (ladder 0 0 m) ≡ m + 0
      here = omega (arith, length-ladder 0 0 m)

  odd_listed : (x : ℕ) → occurs x (zeros 0 flags) ≡ oddly (weights (strings m laid)) x
  odd_listed x =
      zeros_odd (2 * m) verts flags lf odd low (λ y l. occurs_beyond (2 * m) y verts all_below l) x ∙ ap (λ (ws : List ℕ). oddly ws x) (sym string-ends)
    where
      all_below : AllBelow (2 * m) verts
      all_below = at_all (λ v. v < 2 * m) 0 verts (λ c l. graph.verts_low c (omega (arith, lv)))

  spokes_are : Reordered (spoked (2 * m) (strings m laid)) (left m laid)
  spokes_are =
      subst (Reordered (spoked (2 * m) (strings m laid))) (sym left_is)
      (both (spoked_listed (2 * m) (strings m laid) (zeros 0 flags) odd_listed) (swapped (spokes_to (2 * m) (zeros 0 flags)) (strings m laid)))

  all_even_lem : AllEven (left m laid)
  all_even_lem v = omega (arith, occurs-reordered spokes_are v, spoked_even (2 * m) (strings m laid) (hub_fresh m laid graph) v)

  at_starts : Cursors m laid
  at_starts v l =
      let e : get_or (ladder 0 1 (3 * m)) v 0 ≡ v = ladder_at 0 1 (3 * m) v (omega arith) ∙ omega arith in
      rw e (record { low = omega arith; high = omega arith; passed = record { all_used = λ q a b z. omega arith } })

  -- a walk can start
  pub laid_begun : Begun m (laid_tables m keys verts flags stack)
  laid_begun = record {
    ready = record {
      between = record {
        graph = graph;
        cursors = at_starts;
        used_size = used_size;
        stack_size = ls;
        cursors_size = length-ladder 0 1 (3 * m);
        high = omega arith;
        flags = flag_low;
        listed = λ e l. unfold occurs in (rw (nothing, string_flag e l) (omega arith));
      };
      room = omega (arith, unused_few (near m verts) 0 (ladder 0 0 m ++ flags), used_size);
      even = all_even_lem;
    };
    spokes = spokes_are;
  }
    where
      nothing : drop (3 * m) stack ≡ []
      nothing = let l : length stack ≤ 3 * m = omega arith in drop_of_length-le stack l

-- ─── from the stages ─────────────────────────────────────────────────────────

-- behind a list stands what follows it
past : (a b n : ℕ) (xs ys : List ℕ) → length xs ≡ a → part (a + b) n (xs ++ ys) ≡ part b n ys
unfolding part
past a b n xs ys l = ap (take n) (sym (drop-drop b a (xs ++ ys)) ∙ ap (drop b) (drop_at xs ys a l))

front : {n : ℕ} (xs ys : List ℕ) → length xs ≡ n → part 0 n (xs ++ ys) ≡ xs
unfolding part
front {n} xs ys l = take_at xs ys n l

-- the regions of a table that is put together from them
module _ (m : ℕ) (verts used rows cursors rest : List ℕ) (lv : length verts ≡ 2 * m) (lu : length used ≡ 3 * m) (lr : length rows ≡ 4 * m)
    (lc : length cursors ≡ 3 * m) where
  abbrev joined : List ℕ
  joined = verts ++ (used ++ (rows ++ (cursors ++ rest)))

  -- past the first regions
  past_one : (b c n : ℕ) → c ≡ 2 * m + b → part c n joined ≡ part b n (used ++ (rows ++ (cursors ++ rest)))
  past_one b c n e = rw e (past (2 * m) b n verts _ lv)

  past_two : (b c n : ℕ) → c ≡ 2 * m + (3 * m + b) → part c n joined ≡ part b n (rows ++ (cursors ++ rest))
  past_two b c n e = past_one (3 * m + b) c n e ∙ past (3 * m) b n used _ lu

  past_three : (b c n : ℕ) → c ≡ 2 * m + (3 * m + (4 * m + b)) → part c n joined ≡ part b n (cursors ++ rest)
  past_three b c n e = past_two (4 * m + b) c n e ∙ past (4 * m) b n rows _ lr

  tables_joined : tables m joined ≡ record { verts = verts; used = used; rows = rows; cursors = cursors; stack = part 0 (3 * m) rest }
  tables_joined = λ j. record {
    verts = front verts (used ++ (rows ++ (cursors ++ rest))) lv j;
    used = (past_one 0 (2 * m) (3 * m) (omega arith) ∙ front used (rows ++ (cursors ++ rest)) lu) j;
    rows = (past_two 0 (5 * m) (4 * m) (omega arith) ∙ front rows (cursors ++ rest) lr) j;
    cursors = (past_three 0 (9 * m) (3 * m) (omega arith) ∙ front cursors rest lc) j;
    stack = (past_three (3 * m + 0) (12 * m) (3 * m) (omega arith) ∙ past (3 * m) 0 (3 * m) cursors rest lc) j;
  }

-- what the stages leave
module _ (m : ℕ) (keys order verts : List ℕ) (o : order ≡ sort_by (key_at keys) (count_from 0 (2 * m))) (n : Named keys order verts)
    (lv : length verts ≡ 2 * m) where
  named : (q : ℕ) → q < 2 * m → get_or verts (get_or (in_order m keys) q 0) 0 ≡ first_of (keyed keys (in_order m keys)) q
  named q l = rw o at (n q (rw o (omega (arith, order_length m keys))))

  -- vertices are below 2m
  pub named_low : All (λ x. x < 2 * m) verts
  named_low = at_all (λ v. v < 2 * m) 0 verts (λ c l. vert_low m keys verts named c (omega arith))

  module _ (strings spokes hub cursors rest : List ℕ) (some : 1 ≤ m) (a : strings ≡ ladder 0 0 m) (h : hub ≡ ladder (2 * m) 2 (2 * m))
      (c : cursors ≡ ladder 0 1 (3 * m)) (lk : length keys ≡ 2 * m) (ls : length spokes ≡ 2 * m) (d : Marked verts spokes) (lr : 3 * m ≤ length rest) where
    abbrev table : List ℕ
    table = verts ++ ((strings ++ spokes) ++ ((order ++ hub) ++ (cursors ++ rest)))

    tables_are : laid_tables m keys verts spokes (part 0 (3 * m) rest) ≡ tables m table
    tables_are =
        rw (← a, ← h, ← c, ← o)
        (sym (tables_joined m verts (strings ++ spokes) (order ++ hub) cursors rest lv
        (omega (arith, length-append strings spokes, ap length a, length-ladder 0 0 m))
        (omega (arith, length-append order hub, ap length o, order_length m keys, ap length h, length-ladder (2 * m) 2 (2 * m)))
        (ap length c ∙ length-ladder 0 1 (3 * m))))

    -- is ready for the walks
    pub stages_laid : (k : ℕ) (ends ws : List ℕ) → weights (ends_from k 0 ends ws) ≡ keys → LaidOut k m ends ws table
    stages_laid k ends ws e = record {
      begun =
          subst (Begun m) tables_are
          (laid_begun m keys verts spokes (part 0 (3 * m) rest) some named lv ls (part_length 0 (3 * m) rest (omega arith))
          (λ x l. d.odd x (omega arith)) (λ x l. d.flags x (omega arith)));
      renamed =
          subst (λ (t : Tables). Renamed (ends_from k 0 ends ws) (numbered (near m t.verts) 0 m)) tables_are
          (laid_renamed m keys verts named lk lv (ends_from k 0 ends ws) e);
    }

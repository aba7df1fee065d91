-- Rows that stand under their keys.
use Rattle.std.proofs.Common.{◌≡◌, ℕ, suc, ◌+◌, ◌*◌, ◌^◌, ◌<◌, ◌≤◌, Bool, true, false, ◌&&◌, cond, List, [], ◌∷◌, filter, length}
use Rattle.std.proofs.Common.{Option, Some, None, option_map, refl, sym, ap, ap₂, ◌∙◌, nat_lt, arith}
use Rattle.std.specs.Prelude.{find}
use Rattle.std.specs.Cmp.Lexicographic.{slice_cmp}
use Rattle.std.specs.Map.{lookup, remove_entry, set_value}
use Rattle.std.specs.BTreeMap.{insert_entry}
use Rattle.std.specs.Ordering.{is_eq, is_lt, match_ordering, nat_cmp, ordering_then}
use Rattle.std.specs.Str.{bytes_eq}
use Rattle.std.specs.declared.cmp.Ordering.{Ordering}
use Rattle.std.specs.declared.cmp.Ordering.TheVariants.{Less, Equal, Greater}
use Rattle.std.proofs.lemmas.Bool.Decides.{nat_tests}
use Rattle.std.proofs.lemmas.Map.Text.{is_eq-slice_cmp}
use Rattle.std.proofs.lemmas.Slice.Eq.{bytes_eq-Decides}
use Rattle.px_bytes.specs.First.{with_first}
use Rattle.timed_rows.specs.Rows.{Timed, is_later, later_than}
use Rattle.session_table.specs.Rows.{is_live, is_of, lasts}
use Rattle.session_table.specs.Stored.{Dues, Entries, Key, due, ends, fitting, is_key, key_cmp, named, rows_of}
use Rattle.session_table.specs.Stored.{sooner}
use Rattle.session_table.specs.Tables.{with_new, without_first}
use Rattle.session_table.specs.declared.row.TableRow.{TableRow}
use Rattle.session_table.proofs.SortedKeys.{and_both}

and_true : (b : Bool) → (b && true) ≡ b
and_true true = refl
and_true false = refl

and_false : (b : Bool) → (b && false) ≡ false
and_false true = refl
and_false false = refl

then_eq : (a b : Ordering) → is_eq (ordering_then a b) ≡ (is_eq b && is_eq a)
then_eq Less b = sym (and_false (is_eq b))
then_eq Equal b = sym (and_true (is_eq b))
then_eq Greater b = sym (and_false (is_eq b))

-- the names of a key are those of its row
pub key_test : (s k : List ℕ) (x : Key) → is_key s k x ≡ (bytes_eq k x.1.items && bytes_eq s x.0.items)
key_test s k x =
    then_eq (slice_cmp nat_cmp s x.0.items) (slice_cmp nat_cmp k x.1.items)
    ∙ ap₂ (λ a b. a && b) (is_eq-slice_cmp k x.1.items) (is_eq-slice_cmp s x.0.items)

pub key_names : (s k : List ℕ) (x : Key) → is_key s k x ≡ true → (s ≡ x.0.items) × (k ≡ x.1.items)
key_names s k x e =
    let b = and_both _ _ (sym (key_test s k x) ∙ e) in
    ((bytes_eq-Decides s x.0.items).0 b.1, (bytes_eq-Decides k x.1.items).0 b.0)

pub key_itself : (s k : List ℕ) (x : Key) → s ≡ x.0.items → k ≡ x.1.items → is_key s k x ≡ true
key_itself s k x e f =
    key_test s k x ∙ ap₂ (λ a b. a && b) ((bytes_eq-Decides k x.1.items).1 f) ((bytes_eq-Decides s x.0.items).1 e)

-- a row under the names of its key
under_names : (s k : List ℕ) (x : Key) (row : TableRow) → is_key s k x ≡ true → named x.0.items x.1.items row ≡ named s k row
under_names s k x row e = let n = key_names s k x e in ap₂ (λ a b. named a b row) (sym n.0) (sym n.1)

module _ (s k : List ℕ) where
  abbrev test : TableRow → Bool
  test = is_of s k

  pub find_row : (es : Entries) → find test (rows_of es) ≡ option_map (λ t. named s k t.0) (lookup (is_key s k) es)
  find_row [] = refl
  find_row (e ∷ es) = by (is_key s k e.0) refl (find_row es)
    where
      by : (b : Bool) → is_key s k e.0 ≡ b → find test (rows_of es) ≡ option_map (λ t. named s k t.0) (lookup (is_key s k) es)
          → find test (rows_of (e ∷ es)) ≡ option_map (λ t. named s k t.0) (cond b (Some e.1) (lookup (is_key s k) es))
      by true is r = let t = sym (key_test s k e.0) ∙ is in rw t (ap Some (under_names s k e.0 e.1.0 is))
      by false is r = let t = sym (key_test s k e.0) ∙ is in rw t r

  pub set_row : (es : Entries) (row : TableRow) (d : Option ℕ)
      → rows_of (set_value (is_key s k) es (row, d)) ≡ with_first test (λ old. named s k row) (rows_of es)
  set_row [] row d = refl
  set_row (e ∷ es) row d = by (is_key s k e.0) refl (set_row es row d)
    where
      by : (b : Bool) → is_key s k e.0 ≡ b → rows_of (set_value (is_key s k) es (row, d)) ≡ with_first test (λ old. named s k row) (rows_of es)
          → rows_of (cond b ((e.0, (row, d)) ∷ es) (e ∷ set_value (is_key s k) es (row, d))) ≡ with_first test (λ old. named s k row) (rows_of (e ∷ es))
      by true is r = let t = sym (key_test s k e.0) ∙ is in rw t (ap (λ x. x ∷ rows_of es) (under_names s k e.0 row is))
      by false is r = let t = sym (key_test s k e.0) ∙ is in rw t (ap (λ xs. named e.0.0.items e.0.1.items e.1.0 ∷ xs) r)

  pub remove_row : (es : Entries) → rows_of (remove_entry (is_key s k) es) ≡ without_first test (rows_of es)
  remove_row [] = refl
  remove_row (e ∷ es) = by (is_key s k e.0) refl (remove_row es)
    where
      by : (b : Bool) → is_key s k e.0 ≡ b → rows_of (remove_entry (is_key s k) es) ≡ without_first test (rows_of es)
          → rows_of (cond b es (e ∷ remove_entry (is_key s k) es)) ≡ without_first test (rows_of (e ∷ es))
      by true is r = let t = sym (key_test s k e.0) ∙ is in rw t refl
      by false is r = let t = sym (key_test s k e.0) ∙ is in rw t (ap (λ xs. named e.0.0.items e.0.1.items e.1.0 ∷ xs) r)

pub none_found : (s k : List ℕ) (es : Entries) → find (is_of s k) (rows_of es) ≡ None → lookup (is_key s k) es ≡ None
none_found s k es e = by (lookup (is_key s k) es) (sym (find_row s k es) ∙ e)
  where
    by : (o : Option (Timed TableRow)) → option_map (λ t. named s k t.0) o ≡ None → o ≡ None
    by None f = refl
    by (Some t) f = cc

pub insert_row : (q : Key) (row : TableRow) (d : Option ℕ) (es : Entries) → lookup (is_key q.0.items q.1.items) es ≡ None
    → rows_of (insert_entry key_cmp es q (row, d)) ≡ with_new (named q.0.items q.1.items row) (rows_of es)
insert_row q row d [] n = refl
insert_row q row d (e ∷ es) n = by (key_cmp q e.0) n (insert_row q row d es)
  where
    by : (o : Ordering) → cond (is_eq o) (Some e.1) (lookup (is_key q.0.items q.1.items) es) ≡ None
        → (lookup (is_key q.0.items q.1.items) es ≡ None → rows_of (insert_entry key_cmp es q (row, d)) ≡ with_new (named q.0.items q.1.items row) (rows_of es))
        → rows_of (match_ordering o ((q, (row, d)) ∷ e ∷ es) ((e.0, (row, d)) ∷ es) (e ∷ insert_entry key_cmp es q (row, d)))
        ≡ cond (is_lt o) (named q.0.items q.1.items row ∷ rows_of (e ∷ es)) (named e.0.0.items e.0.1.items e.1.0 ∷ with_new (named q.0.items q.1.items row) (rows_of es))
    by Less m r = refl
    by Equal m r = cc
    by Greater m r = ap (λ xs. named e.0.0.items e.0.1.items e.1.0 ∷ xs) (r m)

pub length_rows : (es : Entries) → length (rows_of es) ≡ length es
length_rows [] = refl
length_rows (e ∷ es) = ap suc (length_rows es)

-- ---- deadlines
later_fits : (m end : ℕ) → m < 2 ^ 64 → is_later m (fitting end) ≡ nat_lt m end
later_fits m end w = by (nat_lt end (2 ^ 64)) refl
  where
    by : (b : Bool) → nat_lt end (2 ^ 64) ≡ b → is_later m (cond b (Some end) None) ≡ nat_lt m end
    by true e = refl
    by false e = let h : 2 ^ 64 ≤ end = grind (arith, nat_tests) in let t : nat_lt m end ≡ true = grind (arith, nat_tests) in sym t

later_ends : (m : ℕ) (o : Option ℕ) (since : ℕ) → m < 2 ^ 64 → is_later m (ends o since) ≡ lasts o since m
later_ends m None since w = refl
later_ends m (Some seconds) since w = later_fits m (since + 1000 * seconds) w

later_sooner : (m : ℕ) (a b : Option ℕ) → is_later m (sooner a b) ≡ (is_later m a && is_later m b)
later_sooner m None b = refl
later_sooner m (Some a) None = sym (and_true (nat_lt m a))
later_sooner m (Some a) (Some b) = by (nat_lt m a) (nat_lt m b) (nat_lt a b) refl refl refl
  where
    by : (s t u : Bool) → nat_lt m a ≡ s → nat_lt m b ≡ t → nat_lt a b ≡ u → nat_lt m (cond u a b) ≡ (s && t)
    by s t true f g h = let low : a < b = grind (arith, nat_tests) in f ∙ first s t f g low
      where
        first : (s t : Bool) → nat_lt m a ≡ s → nat_lt m b ≡ t → a < b → s ≡ (s && t)
        first false t f g l = refl
        first true true f g l = refl
        first true false f g l = absurd (let x : m < a = grind (arith, nat_tests) in let y : b ≤ m = grind (arith, nat_tests) in omega (arith, x, y, l))
    by s t false f g h = let low : b ≤ a = grind (arith, nat_tests) in g ∙ second s t f g low
      where
        second : (s t : Bool) → nat_lt m a ≡ s → nat_lt m b ≡ t → b ≤ a → t ≡ (s && t)
        second true t f g l = refl
        second false false f g l = refl
        second false true f g l = absurd (let x : a ≤ m = grind (arith, nat_tests) in let y : m < b = grind (arith, nat_tests) in omega (arith, x, y, l))

-- a row's deadline is still to come exactly where it is live
pub later_live : (m : ℕ) (row : TableRow) → m < 2 ^ 64 → is_later m (due row) ≡ is_live m row
later_live m row w =
    later_sooner m (ends row.times.timeout row.touched) (ends row.times.lifetime row.created)
    ∙ ap₂ (λ a b. a && b) (later_ends m row.times.timeout row.touched w) (later_ends m row.times.lifetime row.created w)

pub live_rows : (m : ℕ) (es : Entries) → m < 2 ^ 64 → Dues es → rows_of (later_than m es) ≡ filter (is_live m) (rows_of es)
live_rows m [] w d = refl
live_rows m (e ∷ es) w d =
    let t : is_later m e.1.1 ≡ is_live m e.1.0 = ap (is_later m) d.0 ∙ later_live m e.1.0 w in
    by (is_live m e.1.0) t (live_rows m es w d.1)
  where
    by : (b : Bool) → is_later m e.1.1 ≡ b → rows_of (later_than m es) ≡ filter (is_live m) (rows_of es)
        → rows_of (later_than m (e ∷ es)) ≡ cond b (named e.0.0.items e.0.1.items e.1.0 ∷ filter (is_live m) (rows_of es)) (filter (is_live m) (rows_of es))
    by true t r = rw t (ap (λ xs. named e.0.0.items e.0.1.items e.1.0 ∷ xs) r)
    by false t r = rw t r

pub dues_later : (m : ℕ) (es : Entries) → Dues es → Dues (later_than m es)
dues_later m [] d = tt
dues_later m (e ∷ es) d = by (is_later m e.1.1) (dues_later m es d.1)
  where
    by : (b : Bool) → Dues (later_than m es) → Dues (cond b (e ∷ later_than m es) (later_than m es))
    by true r = (d.0, r)
    by false r = r

module _ (test : Key → Bool) where
  pub dues_set : (es : Entries) (row : TableRow) (o : Option ℕ) → o ≡ due row → Dues es → Dues (set_value test es (row, o))
  dues_set [] row o s d = tt
  dues_set (e ∷ es) row o s d = by (test e.0) (dues_set es row o s d.1)
    where
      by : (b : Bool) → Dues (set_value test es (row, o)) → Dues (cond b ((e.0, (row, o)) ∷ es) (e ∷ set_value test es (row, o)))
      by true r = (s, d.1)
      by false r = (d.0, r)

  pub dues_remove : (es : Entries) → Dues es → Dues (remove_entry test es)
  dues_remove [] d = tt
  dues_remove (e ∷ es) d = by (test e.0) (dues_remove es d.1)
    where
      by : (b : Bool) → Dues (remove_entry test es) → Dues (cond b es (e ∷ remove_entry test es))
      by true r = d.1
      by false r = (d.0, r)

  pub remove_absent : (es : Entries) → lookup test es ≡ None → remove_entry test es ≡ es
  remove_absent [] n = refl
  remove_absent (e ∷ es) n = by (test e.0) n (remove_absent es)
    where
      by : (b : Bool) → cond b (Some e.1) (lookup test es) ≡ None → (lookup test es ≡ None → remove_entry test es ≡ es)
          → cond b es (e ∷ remove_entry test es) ≡ e ∷ es
      by true m r = cc
      by false m r = ap (λ xs. e ∷ xs) (r m)

  pub due_found : (es : Entries) (t : Timed TableRow) → Dues es → lookup test es ≡ Some t → t.1 ≡ due t.0
  due_found [] t d l = cc
  due_found (e ∷ es) t d l = by (test e.0) l (due_found es t d.1)
    where
      by : (b : Bool) → cond b (Some e.1) (lookup test es) ≡ Some t → (lookup test es ≡ Some t → t.1 ≡ due t.0) → t.1 ≡ due t.0
      by true m r = let same : e.1 ≡ t = cc in ap (λ x. x.1) (sym same) ∙ d.0 ∙ ap (λ x. due x.0) same
      by false m r = r m

  -- what is set twice, or set and taken away
  pub set_again : (es : Entries) (a b : Timed TableRow) → set_value test (set_value test es a) b ≡ set_value test es b
  set_again [] a b = refl
  set_again (e ∷ es) a b = by (test e.0) refl (set_again es a b)
    where
      by : (t : Bool) → test e.0 ≡ t → set_value test (set_value test es a) b ≡ set_value test es b
          → set_value test (cond t ((e.0, a) ∷ es) (e ∷ set_value test es a)) b ≡ cond t ((e.0, b) ∷ es) (e ∷ set_value test es b)
      by true q r = rw q refl
      by false q r = rw q (ap (λ xs. e ∷ xs) r)

  pub set_removed : (es : Entries) (a : Timed TableRow) → remove_entry test (set_value test es a) ≡ remove_entry test es
  set_removed [] a = refl
  set_removed (e ∷ es) a = by (test e.0) refl (set_removed es a)
    where
      by : (t : Bool) → test e.0 ≡ t → remove_entry test (set_value test es a) ≡ remove_entry test es
          → remove_entry test (cond t ((e.0, a) ∷ es) (e ∷ set_value test es a)) ≡ cond t es (e ∷ remove_entry test es)
      by true q r = rw q refl
      by false q r = rw q (ap (λ xs. e ∷ xs) r)

pub dues_insert : (q : Key) (row : TableRow) (o : Option ℕ) (es : Entries) → o ≡ due row → Dues es → Dues (insert_entry key_cmp es q (row, o))
dues_insert q row o [] s d = (s, tt)
dues_insert q row o (e ∷ es) s d = by (key_cmp q e.0) (dues_insert q row o es s d.1)
  where
    by : (c : Ordering) → Dues (insert_entry key_cmp es q (row, o))
        → Dues (match_ordering c ((q, (row, o)) ∷ e ∷ es) ((e.0, (row, o)) ∷ es) (e ∷ insert_entry key_cmp es q (row, o)))
    by Less r = (s, d)
    by Equal r = (s, d.1)
    by Greater r = (d.0, r)

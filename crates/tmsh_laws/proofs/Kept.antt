-- Values at the keys of a configuration, as they are printed.
use Rattle.std.proofs.Common.{◌≡◌, ℕ, ◌≤◌, ℤ, pos, negsuc, Bool, true, false, ◌&&◌, eqb, List, [], ◌∷◌, ◌++◌, Option, Some, None, Less, Equal, Greater, refl, sym, ap, subst, ◌∙◌, arith}
use Rattle.std.proofs.lemmas.Bool.{and_parts, eqb-true}
use Rattle.std.proofs.lemmas.Bool.Decides.{nat_tests}
use Rattle.std.proofs.lemmas.Slice.Eq.{bytes_eq-Decides}
use Rattle.std.specs.Cmp.Lexicographic.{slice_cmp}
use Rattle.std.specs.Option.{option_map_or}
use Rattle.std.specs.Ordering.{match_ordering, nat_cmp}
use Rattle.std.specs.Prelude.{fold, if◌then◌else◌, is_some, nat_le, option_and_then, option_map, unwrap_or}
use Rattle.std.specs.Str.{bytes_eq}
use Rattle.px_bytes.specs.Address.{addr_text}
use Rattle.px_bytes.specs.declared.addr.Addr.{Addr}
use Rattle.tcl_encodings.specs.Addr.{addr_of, spells_addr, written_addr}
use Rattle.toml.specs.Data.{Data, string, integer, float, boolean, datetime, array, table, Items, no_items, item, Members, no_members, member, as_array, as_integer, as_str, get_member}
use Rattle.config.specs.Documents.{document_fault, document_faults, or_none}
use Rattle.config.specs.Faults.{better, comes_first, told_of}
use Rattle.config.specs.Forms.{has_form}
use Rattle.config.specs.Keys as key
use Rattle.config.specs.Keys.{KeyKind, TableKey, whole}
use Rattle.config.specs.Names.{missing, twice}
use Rattle.config.specs.Places.{key_place}
use Rattle.config.specs.Settings.{no_addr, whole_or}
use Rattle.config.specs.Tables.{faults_of, flaw_of, is_known, key_faults, key_flaw, keys_faults, unknown_at, unknown_faults}
use Rattle.config.specs.Values.{few, in_range, items_length, judged}
use Rattle.config.specs.declared.fault.ConfigFault.{ConfigFault}
use Rattle.config.specs.declared.fault.ConfigFaultKind.{ConfigFaultKind}
use Rattle.config.specs.declared.fault.ConfigFaultKind.TheVariants.{NoSuch, Twice}
use Rattle.config.proofs.DocumentTypes.{Any, Form}
use Rattle.tmsh_laws.proofs.Lines.{Each, number_entry, put}
use Rattle.tmsh_laws.proofs.Lookups.{found, get_puts, or_else, or_nothing}
use Rattle.tmsh_laws.proofs.Tables.{Entries, array_entry, puts}
use Rattle.tmsh_read.specs.Tables.{with_member}

-- ---- no faults

pub no_front : {A : Type 0} (a b : List A) → a ++ b ≡ [] → a ≡ []
no_front [] b e = refl
no_front (x ∷ a) b e = cc

pub no_back : {A : Type 0} (a b : List A) → a ++ b ≡ [] → b ≡ []
no_back [] b e = e
no_back (x ∷ a) b e = cc

pub none : {A : Type 0} (a b : List A) → a ≡ [] → b ≡ [] → a ++ b ≡ []
none a b p q = rw (p, q) refl

pub no_flaw : (place : List ℕ) (o : Option ConfigFaultKind) → faults_of place o ≡ [] → o ≡ None
no_flaw place None e = refl
no_flaw place (Some kind) e = cc

-- one that is told stays told
still_told : (faults : List ConfigFault) (f : ConfigFault) → fold better (Some f) faults ≡ None → Unit {0} × ⊥
still_told [] f e = absurd (cc)
still_told (g ∷ faults) f e = by_test (comes_first g.kind (Some f)) (still_told faults) e
  where
    by_test : (x : Bool) → ((h : ConfigFault) → fold better (Some h) faults ≡ None → Unit {0} × ⊥) → fold better (if x then Some g else Some f) faults ≡ None → Unit {0} × ⊥
    by_test true more e = more g e
    by_test false more e = more f e

nothing_told : (faults : List ConfigFault) → told_of faults ≡ None → faults ≡ []
nothing_told [] e = refl
nothing_told (f ∷ faults) e = absurd ((still_told faults f e).1)

pub has_none : (ms : Members) → document_fault ms ≡ None → document_faults ms ≡ []
unfolding document_fault
has_none ms e = nothing_told (document_faults ms) e

pub none_told : (ms : Members) → document_faults ms ≡ [] → document_fault ms ≡ None
unfolding document_fault
none_told ms e = ap told_of e

-- ---- keys

abbrev pub Flawless : Members → TableKey → Type 0
Flawless ms k = flaw_of k (get_member k.name ms) ≡ None

pub keys_each : (prefix : List ℕ) (keys : List TableKey) (ms : Members) → keys_faults prefix keys ms ≡ [] → Each (Flawless ms) keys
keys_each prefix [] ms e = tt
keys_each prefix (k ∷ keys) ms e = (
  no_flaw (key_place prefix k.name) (key_flaw k ms) (no_front (key_faults prefix ms k) (keys_faults prefix keys ms) e),
  keys_each prefix keys ms (no_back (key_faults prefix ms k) (keys_faults prefix keys ms) e),
)

pub each_keys : (prefix : List ℕ) (keys : List TableKey) (ms : Members) → Each (Flawless ms) keys → keys_faults prefix keys ms ≡ []
each_keys prefix [] ms each = refl
each_keys prefix (k ∷ keys) ms each =
    none (key_faults prefix ms k) (keys_faults prefix keys ms) (ap (faults_of (key_place prefix k.name)) each.0) (each_keys prefix keys ms each.1)

-- what was put at a key
pub at_key : (es : Entries) (k : List ℕ) (o : Option Data) → found k es None ≡ or_else o None → get_member k (puts es no_members) ≡ o
at_key es k o e = get_puts k es no_members ∙ e ∙ or_nothing o

pub flawless : (ms : Members) (k : TableKey) (o : Option Data) → get_member k.name ms ≡ o → flaw_of k o ≡ None → Flawless ms k
flawless ms k o is e = ap (flaw_of k) is ∙ e

module _ (prefix : List ℕ) (keys : List TableKey) where
  known_name : (name : List ℕ) → is_known keys name ≡ true → unknown_at prefix keys name ≡ []
  known_name name e = rw e refl

  with_known : (v : List ℕ) (d : Data) (ms : Members) → is_known keys v ≡ true → unknown_faults prefix keys ms ≡ [] → unknown_faults prefix keys (with_member v d ms) ≡ []
  with_known v d no_members is e = rw is refl
  with_known v d (member l e ms) is faults =
      let here = known_name v is in
      let there = no_front (unknown_at prefix keys l) (unknown_faults prefix keys ms) faults in
      let more = no_back (unknown_at prefix keys l) (unknown_faults prefix keys ms) faults in
      elim (slice_cmp nat_cmp v l) as (λ o. unknown_faults prefix keys (match_ordering o (member v d (member l e ms)) (member l d ms) (member l e (with_member v d ms))) ≡ []) [
        | Less ↦ none (unknown_at prefix keys v) _ here faults
        | Equal ↦ none (unknown_at prefix keys l) (unknown_faults prefix keys ms) there more
        | Greater ↦ none (unknown_at prefix keys l) (unknown_faults prefix keys (with_member v d ms)) there (with_known v d ms is more)
      ]

  put_known : (v : List ℕ) (o : Option Data) (ms : Members) → is_known keys v ≡ true → unknown_faults prefix keys ms ≡ [] → unknown_faults prefix keys (put v o ms) ≡ []
  put_known v None ms is e = e
  put_known v (Some d) ms is e = with_known v d ms is e

  pub all_known : (es : Entries) (ms : Members) → Each (λ e. is_known keys e.0 ≡ true) es → unknown_faults prefix keys ms ≡ [] → unknown_faults prefix keys (puts es ms) ≡ []
  all_known [] ms each e = e
  all_known (x ∷ es) ms each e = all_known es (put x.0 x.1 ms) each.1 (put_known x.0 x.1 ms each.0 e)

-- ---- names

pub same_twice : (f g : List ℕ → Option ℕ) → ((t : List ℕ) → f t ≡ g t) → (at : ℕ) (o : Option (List ℕ)) → twice f at o ≡ twice g at o
same_twice f g same at None = refl
same_twice f g same at (Some t) = ap (λ x. if option_map_or (λ n. eqb n at) x false then None else Some Twice) (same t)

pub same_missing : (f g : List ℕ → Option ℕ) → ((t : List ℕ) → f t ≡ g t) → (o : Option (List ℕ)) → missing f o ≡ missing g o
same_missing f g same None = refl
same_missing f g same (Some t) = ap (λ x. if is_some x then None else Some NoSuch) (same t)

-- ---- numbers

module _ (low high usual : ℕ) where
  abbrev pub InRange : ℕ → Type 0
  InRange n = (low ≤ n) × (n ≤ high)

  pub range_is : (n : ℕ) → InRange n → in_range low high (pos n) ≡ Some n
  range_is n (l, h) =
      let a : nat_le low n ≡ true = grind (arith, nat_tests, l) in
      let b : nat_le n high ≡ true = grind (arith, nat_tests, h) in
      ap (λ x. if x && nat_le n high then Some n else None) a ∙ ap (λ x. if x then Some n else None) b

  pub range_of : (z : ℤ) → judged (Some (is_some (in_range low high z))) ≡ None → (n : ℕ) × (z ≡ pos n) × InRange n
  range_of (negsuc n) e = absurd (cc)
  range_of (pos n) e = by_test (nat_le low n) (nat_le n high) refl refl e
    where
      by_test : (a b : Bool) → nat_le low n ≡ a → nat_le n high ≡ b → judged (Some (is_some (if a && b then Some n else None))) ≡ None → (m : ℕ) × (pos n ≡ pos m) × InRange m
      by_test true true p q e = (n, refl, (grind (arith, nat_tests, p), grind (arith, nat_tests, q)))
      by_test true false p q e = absurd (cc)
      by_test false b p q e = absurd (cc)

  pub whole_kept : (name : List ℕ) (o : Option Data) → InRange usual → flaw_of (key.optional name (whole low high usual)) o ≡ None
      → InRange (whole_or (whole low high usual) (option_and_then as_integer o))
  whole_kept name None is e = is
  whole_kept name (Some (integer z)) is e =
      let (n, z_is, in_it) = range_of z e in
      subst (λ x. InRange (unwrap_or (in_range low high x) usual)) (sym z_is) (subst (λ r. InRange (unwrap_or r usual)) (sym (range_is n in_it)) in_it)
  whole_kept name (Some (string t)) is e = absurd (cc)
  whole_kept name (Some (float x)) is e = absurd (cc)
  whole_kept name (Some (boolean b)) is e = absurd (cc)
  whole_kept name (Some (datetime x)) is e = absurd (cc)
  whole_kept name (Some (array ds)) is e = absurd (cc)
  whole_kept name (Some (table ms)) is e = absurd (cc)

  pub number_ok : (name : List ℕ) (n : ℕ) → InRange n → flaw_of (key.optional name (whole low high usual)) (number_entry usual n) ≡ None
  number_ok name n is = by_test (eqb n usual)
    where
      by_test : (x : Bool) → flaw_of (key.optional name (whole low high usual)) (if x then None else Some (integer (pos n))) ≡ None
      by_test true = refl
      by_test false = ap (λ r. judged (Some (is_some r))) (range_is n is)

  pub number_says : (n : ℕ) → InRange n → whole_or (whole low high usual) (option_and_then as_integer (number_entry usual n)) ≡ n
  number_says n is = by_test (eqb n usual) refl
    where
      by_test : (x : Bool) → eqb n usual ≡ x → whole_or (whole low high usual) (option_and_then as_integer (if x then None else Some (integer (pos n)))) ≡ n
      by_test true e = sym (eqb-true n usual e)
      by_test false e = ap (λ r. unwrap_or r usual) (range_is n is)

-- ---- texts

module _ (name : List ℕ) (form : Form) where
  pub required_text : (o : Option Data) → flaw_of (key.required name (key.text form)) o ≡ None → (t : List ℕ) × (o ≡ Some (string t)) × (has_form form t ≡ true)
  required_text None e = absurd (cc)
  required_text (Some (string t)) e = (t, refl, by_test (has_form form t) refl e)
    where
      by_test : (b : Bool) → has_form form t ≡ b → judged (Some b) ≡ None → has_form form t ≡ true
      by_test true is e = is
      by_test false is e = absurd (cc)
  required_text (Some (integer z)) e = absurd (cc)
  required_text (Some (float x)) e = absurd (cc)
  required_text (Some (boolean b)) e = absurd (cc)
  required_text (Some (datetime x)) e = absurd (cc)
  required_text (Some (array ds)) e = absurd (cc)
  required_text (Some (table ms)) e = absurd (cc)

pub optional_text : (name : List ℕ) (o : Option Data) → flaw_of (key.optional name (key.text Any)) o ≡ None → option_map string (option_and_then as_str o) ≡ o
optional_text name None e = refl
optional_text name (Some (string t)) e = refl
optional_text name (Some (integer z)) e = absurd (cc)
optional_text name (Some (float x)) e = absurd (cc)
optional_text name (Some (boolean b)) e = absurd (cc)
optional_text name (Some (datetime x)) e = absurd (cc)
optional_text name (Some (array ds)) e = absurd (cc)
optional_text name (Some (table ms)) e = absurd (cc)

pub as_string : (d : Data) (t : List ℕ) → as_str d ≡ Some t → d ≡ string t
as_string (string s) t e = cc
as_string (integer z) t e = absurd (cc)
as_string (float x) t e = absurd (cc)
as_string (boolean b) t e = absurd (cc)
as_string (datetime x) t e = absurd (cc)
as_string (array ds) t e = absurd (cc)
as_string (table ms) t e = absurd (cc)

-- each address is that of one text alone
spelled : (text : List ℕ) (a : Addr) → addr_of text ≡ Some a → text ≡ addr_text a
spelled text a e = by_test (spells_addr text (written_addr text)) refl e
  where
    by_test : (b : Bool) → spells_addr text (written_addr text) ≡ b → (if b then Some (written_addr text) else None) ≡ Some a → text ≡ addr_text a
    by_test false is e = absurd (cc)
    by_test true is e =
        let same : written_addr text ≡ a = cc in
        (bytes_eq-Decides text (addr_text a)).0 (subst (λ x. bytes_eq text (addr_text x) ≡ true) same (and_parts _ _ is).1)

pub addr_back : (text : List ℕ) → is_some (addr_of text) ≡ true → addr_text (unwrap_or (addr_of text) no_addr) ≡ text
addr_back text e = by_addr (addr_of text) refl e
  where
    by_addr : (o : Option Addr) → addr_of text ≡ o → is_some o ≡ true → addr_text (unwrap_or o no_addr) ≡ text
    by_addr None is e = absurd (cc)
    by_addr (Some a) is e = sym (spelled text a is)

-- ---- arrays

pub array_says : (ds : Items) → or_none (option_and_then as_array (array_entry ds)) ≡ ds
array_says no_items = refl
array_says (item d ds) = refl

module _ (name : List ℕ) (most : ℕ) where
  long_ok : (ds : Items) → nat_le (items_length ds) most ≡ true → flaw_of (key.optional name (key.array most)) (array_entry ds) ≡ None
  long_ok no_items e = refl
  long_ok (item d ds) e = ap (λ x. judged (Some x)) e

  was_few : (o : Option Data) → flaw_of (key.optional name (key.array most)) o ≡ None → nat_le (items_length (or_none (option_and_then as_array o))) most ≡ true
  was_few None e = grind (arith, nat_tests)
  was_few (Some (array ds)) e = by_test (few most ds) refl e
    where
      by_test : (b : Bool) → few most ds ≡ b → judged (Some b) ≡ None → nat_le (items_length ds) most ≡ true
      by_test true is e = is
      by_test false is e = absurd (cc)
  was_few (Some (string t)) e = absurd (cc)
  was_few (Some (integer z)) e = absurd (cc)
  was_few (Some (float x)) e = absurd (cc)
  was_few (Some (boolean b)) e = absurd (cc)
  was_few (Some (datetime x)) e = absurd (cc)
  was_few (Some (table ms)) e = absurd (cc)

  -- as many items as before
  pub array_ok : (o : Option Data) (ds : Items) → items_length ds ≡ items_length (or_none (option_and_then as_array o)) → flaw_of (key.optional name (key.array most)) o ≡ None
      → flaw_of (key.optional name (key.array most)) (array_entry ds) ≡ None
  array_ok o ds same e = long_ok ds (ap (λ n. nat_le n most) same ∙ was_few o e)

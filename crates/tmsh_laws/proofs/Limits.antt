-- What is read of the limits of a configuration in print.
use Rattle.std.proofs.Common.{◌≡◌, ℕ, ◌≤◌, Bool, true, false, eqb, List, [], ◌∷◌, ◌++◌, length, Some, None, refl, sym, ap, subst, ◌∙◌}
use Rattle.std.proofs.lemmas.Bool.{false≢true}
use Rattle.std.specs.Fmt.{decimal}
use Rattle.std.specs.Prelude.{codes, if◌then◌else◌, is_some, option_map, pos}
use Rattle.toml.specs.Data.{integer, no_items, Members, no_members, get_member}
use Rattle.config.specs.declared.config.Settings.{Settings}
use Rattle.tmsh_laws.proofs.Lines.{Goes, blank, by_chain, newline, nothing, number_entry, put}
use Rattle.tmsh_laws.proofs.Reading.{IsRun, close_all, open_all, run_all, run_of, run_within}
use Rattle.tmsh_laws.proofs.Servers.{lacks, not_none, piece}
use Rattle.tmsh_laws.proofs.Stanzas.{number_goes}
use Rattle.tmsh_laws.proofs.Tables.{Entries, limit_entries, puts}
use Rattle.tmsh_read.specs.Reading as reading
use Rattle.tmsh_read.specs.Sketch.{Sketch, stored}
use Rattle.tmsh_read.proofs.GapKinds.{LineStart, Within}
use Rattle.tmsh_read.proofs.ReaderTypes.{Item, Next}
use Rattle.tmsh_read.proofs.ItemKinds as item_
use Rattle.tmsh_read.proofs.NextKinds as next
use Rattle.tmsh_read.proofs.BlockKinds as block
use Rattle.tmsh_text.specs.Items.{item, number_item, stanza}
use Rattle.tmsh_text.specs.Printed.{limit_items, limits}

-- so much was read, and nothing but limits
abbrev pub limited : Next → Bool → Members → Sketch
limited n b m = record {
  next = n;
  limited = b;
  limits = m;
  servers = no_items;
  pools = no_items;
  rules = no_items;
  groups = no_items;
  stanza = no_members;
  entries = no_items;
  member = no_members;
  row = no_items;
}

abbrev inside : Members → Sketch
inside m = limited (next.Items block.Limits) true m

abbrev valued : Item → Members → Sketch
valued i m = limited (next.Value i) true m

pub record IsNumber (n : ℕ) : Type 0 where
  pub small : n ≤ 999999999999999999
  pub digits : IsRun (decimal n)

pub record LimitsRead (s : Settings) : Type 0 where
  pub budget : IsNumber s.budget
  pub connections : IsNumber s.connections
  pub idle : IsNumber s.idle
  pub rows : IsNumber s.rows

module _ (m : Members) where
  budget_goes : (n : ℕ) → IsNumber n → is_some (get_member (codes "budget") m) ≡ false
      → Goes LineStart (inside m) (number_item (codes "budget") 100000 n) LineStart (inside (put (codes "budget") (number_entry 100000 n) m))
  budget_goes n is none =
      number_goes inside (valued item_.Budget m) (codes "budget") (codes "budget") (run_of (codes "budget") refl) m (λ k. refl) refl (ap (λ x. if x then None else Some (valued item_.Budget m)) none)
      (λ k e. ap (option_map (λ j. stored item_.Budget (integer (pos j)) (valued item_.Budget m))) e) 100000 n is.small is.digits

  connections_goes : (n : ℕ) → IsNumber n → is_some (get_member (codes "connections") m) ≡ false
      → Goes LineStart (inside m) (number_item (codes "connections") 512 n) LineStart (inside (put (codes "connections") (number_entry 512 n) m))
  connections_goes n is none =
      number_goes inside (valued item_.Connections m) (codes "connections") (codes "connections") (run_of (codes "connections") refl) m (λ k. refl) refl
      (ap (λ x. if x then None else Some (valued item_.Connections m)) none)
      (λ k e. ap (option_map (λ j. stored item_.Connections (integer (pos j)) (valued item_.Connections m))) e) 512 n is.small is.digits

  idle_goes : (n : ℕ) → IsNumber n → is_some (get_member (codes "idle") m) ≡ false
      → Goes LineStart (inside m) (number_item (codes "idle") 300 n) LineStart (inside (put (codes "idle") (number_entry 300 n) m))
  idle_goes n is none =
      number_goes inside (valued item_.Idle m) (codes "idle") (codes "idle") (run_of (codes "idle") refl) m (λ k. refl) refl (ap (λ x. if x then None else Some (valued item_.Idle m)) none)
      (λ k e. ap (option_map (λ j. stored item_.Idle (integer (pos j)) (valued item_.Idle m))) e) 300 n is.small is.digits

  rows_goes : (n : ℕ) → IsNumber n → is_some (get_member (codes "rows") m) ≡ false
      → Goes LineStart (inside m) (number_item (codes "rows") 65536 n) LineStart (inside (put (codes "rows") (number_entry 65536 n) m))
  rows_goes n is none =
      number_goes inside (valued item_.TableRows m) (codes "rows") (codes "rows") (run_of (codes "rows") refl) m (λ k. refl) refl (ap (λ x. if x then None else Some (valued item_.TableRows m)) none)
      (λ k e. ap (option_map (λ j. stored item_.TableRows (integer (pos j)) (valued item_.TableRows m))) e) 65536 n is.small is.digits

-- ---- none of them

no_bytes : (xs : List ℕ) → eqb (length xs) 0 ≡ true → xs ≡ []
no_bytes [] e = refl
no_bytes (x ∷ xs) e = absurd (false≢true (sym (not_none x xs) ∙ e))

no_front : (a b : List ℕ) → a ++ b ≡ [] → a ≡ []
no_front [] b e = refl
no_front (x ∷ a) b e = cc

no_back : (a b : List ℕ) → a ++ b ≡ [] → b ≡ []
no_back [] b e = e
no_back (x ∷ a) b e = cc

no_entry : (w : List ℕ) (usual n : ℕ) → number_item w usual n ≡ [] → number_entry usual n ≡ None
no_entry w usual n e = by_test (eqb n usual) e
  where
    by_test : (x : Bool) → (if x then [] else item w (decimal n)) ≡ [] → (if x then None else Some (integer (pos n))) ≡ None
    by_test true e = refl
    by_test false e = cc

module _ (s : Settings) where
  abbrev table : Members
  table = puts (limit_entries s) no_members

  nothing_put : limit_items s ≡ [] → table ≡ no_members
  nothing_put e =
      let p1 = number_item (codes "budget") 100000 s.budget in
      let p2 = number_item (codes "connections") 512 s.connections in
      let p3 = number_item (codes "idle") 300 s.idle in
      let p4 = number_item (codes "rows") 65536 s.rows in
      let b2 = no_back p1 (p2 ++ (p3 ++ (p4 ++ []))) e in
      let b3 = no_back p2 (p3 ++ (p4 ++ [])) b2 in
      let b4 = no_back p3 (p4 ++ []) b3 in
      let n1 = no_entry (codes "budget") 100000 s.budget (no_front p1 (p2 ++ (p3 ++ (p4 ++ []))) e) in
      let n2 = no_entry (codes "connections") 512 s.connections (no_front p2 (p3 ++ (p4 ++ [])) b2) in
      let n3 = no_entry (codes "idle") 300 s.idle (no_front p3 (p4 ++ []) b3) in
      let n4 = no_entry (codes "rows") 65536 s.rows (no_front p4 [] b4) in
      rw (n1, n2, n3, n4) refl

  module _ (is : LimitsRead s) where
    items_go : Goes LineStart (inside no_members) (limit_items s) LineStart (inside table)
    items_go =
        let e1 : Entries = (codes "budget", number_entry 100000 s.budget) ∷ [] in
        let e2 : Entries = (codes "budget", number_entry 100000 s.budget) ∷ ((codes "connections", number_entry 512 s.connections) ∷ []) in
        let e3 : Entries = (codes "budget", number_entry 100000 s.budget) ∷ ((codes "connections", number_entry 512 s.connections) ∷ ((codes "idle", number_entry 300 s.idle) ∷ [])) in
        let at : Entries → Sketch = λ es. inside (puts es no_members) in
        let last = inside table in
        let p1 = number_item (codes "budget") 100000 s.budget in
        let p2 = number_item (codes "connections") 512 s.connections in
        let p3 = number_item (codes "idle") 300 s.idle in
        let p4 = number_item (codes "rows") 65536 s.rows in
        piece (at []) (at e1) last p1 (p2 ∷ (p3 ∷ (p4 ∷ []))) (budget_goes no_members s.budget is.budget refl)
        (piece (at e1) (at e2) last p2 (p3 ∷ (p4 ∷ [])) (connections_goes (puts e1 no_members) s.connections is.connections (lacks (codes "connections") e1 refl))
        (piece (at e2) (at e3) last p3 (p4 ∷ []) (idle_goes (puts e2 no_members) s.idle is.idle (lacks (codes "idle") e2 refl))
        (piece (at e3) last last p4 [] (rows_goes (puts e3 no_members) s.rows is.rows (lacks (codes "rows") e3 refl)) (nothing LineStart last))))

    stanza_is_read : Goes LineStart reading.blank (stanza (codes "sys limits") [] (limit_items s)) LineStart (limited next.Stanza true table)
    stanza_is_read =
        let items = limit_items s in
        let t = limited next.Stanza true table in
        let sys = limited next.Limits true no_members in
        let opened = limited (next.Opens block.Limits) true no_members in
        by_chain LineStart LineStart reading.blank t (codes "sys limits" ∷ ([] ∷ (codes " {\n" ∷ (items ∷ (codes "}\n" ∷ [])))))
        (λ rest u all.
        let after = items ++ (125 ∷ (10 ∷ rest)) in
        run_all LineStart reading.blank sys u refl 115 (121 ∷ (115 ∷ [])) 32 (codes "limits" ++ (32 ∷ (123 ∷ (10 ∷ after)))) refl (run_of (codes "sys") refl) refl refl
        (blank sys u refl (codes "limits" ++ (32 ∷ (123 ∷ (10 ∷ after))))
        (run_within sys opened u refl (codes "limits") 32 (123 ∷ (10 ∷ after)) (run_of (codes "limits") refl) refl refl
        (blank opened u refl (123 ∷ (10 ∷ after))
        (open_all Within opened (inside no_members) u refl (10 ∷ after) refl refl
        (newline (inside no_members) u refl after
        (items_go (125 ∷ (10 ∷ rest)) u (close_all LineStart (inside table) t u refl (10 ∷ rest) refl refl (newline t u refl rest all)))))))))

    pub limits_go : (b : Bool) × Goes LineStart reading.blank (limits s) LineStart (limited next.Stanza b table)
    limits_go = by_test (eqb (length (limit_items s)) 0) refl
      where
        by_test : (x : Bool) → eqb (length (limit_items s)) 0 ≡ x
            → (b : Bool) × Goes LineStart reading.blank (if x then limit_items s else stanza (codes "sys limits") [] (limit_items s)) LineStart (limited next.Stanza b table)
        by_test true e =
            let none = no_bytes (limit_items s) e in (
              false,
              subst (λ items. Goes LineStart reading.blank items LineStart (limited next.Stanza false table)) (sym none)
                  (subst (λ m. Goes LineStart reading.blank [] LineStart (limited next.Stanza false m)) (sym (nothing_put none)) (nothing LineStart reading.blank)),
            )
        by_test false e = (true, stanza_is_read)

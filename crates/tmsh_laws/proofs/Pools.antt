-- What is read of a pool in print.
use Rattle.std.proofs.Common.{◌≡◌, ℕ, ◌≤◌, Bool, true, false, eqb, List, [], ◌∷◌, ◌++◌, Some, None, refl, sym, ap, subst, ◌∙◌}
use Rattle.std.specs.Fmt.{decimal}
use Rattle.std.specs.Prelude.{codes, if◌then◌else◌, is_some, option_map, pos}
use Rattle.toml.specs.Data.{string, integer, array, table, Items, no_items, Members, no_members, get_member, push_item}
use Rattle.config.specs.declared.config.PoolSettings.{PoolSettings}
use Rattle.pools.specs.declared.member.Member.{Member}
use Rattle.pools.specs.declared.member.Method.{Method}
use Rattle.pools.specs.declared.member.Method.TheVariants.{RoundRobin, Ratio}
use Rattle.px_bytes.specs.Address.{addr_text}
use Rattle.tmsh_laws.proofs.Lines.{Each, Goes, all_go, blank, by_chain, indent, indent_twice, item_goes, joined_chain, newline, nothing, number_entry, put}
use Rattle.tmsh_laws.proofs.Marks.{number_back}
use Rattle.tmsh_laws.proofs.Reading.{IsRun, ReadsAll, close_all, open_all, run_of, run_within}
use Rattle.tmsh_laws.proofs.Servers.{keyword, lacks, not_none, piece, pushed, pushed_is}
use Rattle.tmsh_laws.proofs.Stanzas.{among, idle, now, number_goes, stanza_goes, value}
use Rattle.tmsh_laws.proofs.Tables.{Entries, array_entry, member_members, method_entry, pool_entries, pool_members, puts, tables}
use Rattle.tmsh_read.specs.Grammar.{step}
use Rattle.tmsh_read.specs.Items.{number}
use Rattle.tmsh_read.specs.Sketch.{Sketch, stored}
use Rattle.tmsh_read.specs.Tables.{with_member}
use Rattle.tmsh_read.proofs.GapKinds.{LineStart, Within}
use Rattle.tmsh_read.proofs.ReaderTypes.{Item}
use Rattle.tmsh_read.proofs.ItemKinds as item_
use Rattle.tmsh_read.proofs.NextKinds as next
use Rattle.tmsh_read.proofs.BlockKinds as block
use Rattle.tmsh_read.proofs.SectionKinds as section
use Rattle.tmsh_read.proofs.TokenKinds.{Run}
use Rattle.tmsh_text.specs.Items.{joined, number_item, short_item}
use Rattle.tmsh_text.specs.Printed.{member_line, member_lines, members_item, mode_item, pool_items, pool_text}

-- ---- members

pub record MemberReads (m : Member) : Type 0 where
  pub addr : IsRun (addr_text m.addr)
  pub ratio_small : m.ratio ≤ 999999999999999999
  pub ratio : IsRun (decimal m.ratio)
  pub priority_small : m.priority ≤ 999999999999999999
  pub priority : IsRun (decimal m.priority)

-- a text that begins with a blank
abbrev BeginsBlank : List ℕ → Type 0
BeginsBlank rest = (more : List ℕ) × (rest ≡ 32 ∷ more)

abbrev short : List ℕ → ℕ → List ℕ
short w n = joined (codes " " ∷ (w ∷ (codes " " ∷ (decimal n ∷ []))))

short_blank : (w : List ℕ) (n : ℕ) (x : Bool) (rest : List ℕ) → BeginsBlank rest → BeginsBlank ((if x then [] else short w n) ++ rest)
short_blank w n true rest begins = begins
short_blank w n false rest begins = (_, joined_chain (codes " " ∷ (w ∷ (codes " " ∷ (decimal n ∷ [])))) rest)

module _ (s : Sketch) (pm : Members) where
  abbrev listing : Items → Sketch
  listing en = now s next.Members pm en no_members no_items

  abbrev within : Items → Members → Sketch
  within en mm = now s (next.Items block.Member) pm en mm no_items

  abbrev valued : Items → Item → Members → Sketch
  valued en i mm = now s (next.Value i) pm en mm no_items

  module _ (en : Items) (i : Item) (k w : List ℕ) (run : IsRun w) (mm : Members)
      (first : step (within en mm) (Run w) ≡ Some (valued en i mm))
      (last : (n : ℕ) → number (decimal n) ≡ Some n → step (valued en i mm) (Run (decimal n)) ≡ Some (within en (with_member k (integer (pos n)) mm))) where
    short_by : (n : ℕ) → n ≤ 999999999999999999 → IsRun (decimal n) → (x : Bool) (rest : List ℕ) (u : Sketch) → BeginsBlank rest
        → ReadsAll Within (within en (put k (if x then None else Some (integer (pos n))) mm)) rest u → ReadsAll Within (within en mm) ((if x then [] else short w n) ++ rest) u
    short_by n small digits true rest u begins all = all
    short_by n small digits false rest u (more, is) all =
        let t = within en (with_member k (integer (pos n)) mm) in
        let v = valued en i mm in
        let behind : ReadsAll Within t (32 ∷ more) u = subst (λ x. ReadsAll Within t x u) is all in
        let read : ReadsAll Within (within en mm) (32 ∷ (w ++ (32 ∷ (decimal n ++ (32 ∷ more))))) u =
        blank (within en mm) u refl (w ++ (32 ∷ (decimal n ++ (32 ∷ more))))
        (run_within (within en mm) v u refl w 32 (decimal n ++ (32 ∷ more)) run refl first
        (blank v u refl (decimal n ++ (32 ∷ more))
        (run_within v t u refl (decimal n) 32 more digits refl (last n (number_back n small)) behind))) in
        subst (λ x. ReadsAll Within (within en mm) x u)
        (sym (joined_chain (codes " " ∷ (w ∷ (codes " " ∷ (decimal n ∷ [])))) rest ∙ ap (λ x. 32 ∷ (w ++ (32 ∷ (decimal n ++ x)))) is)) read

  ratio_by : (en : Items) (mm : Members) (n : ℕ) → n ≤ 999999999999999999 → IsRun (decimal n) → is_some (get_member (codes "ratio") mm) ≡ false → (rest : List ℕ) (u : Sketch) → BeginsBlank rest
      → ReadsAll Within (within en (put (codes "ratio") (number_entry 1 n) mm)) rest u → ReadsAll Within (within en mm) (short_item (codes "ratio") 1 n ++ rest) u
  ratio_by en mm n small digits none rest u begins all =
      short_by en item_.Ratio (codes "ratio") (codes "ratio") (run_of (codes "ratio") refl) mm (ap (λ x. if x then None else Some (valued en item_.Ratio mm)) none)
      (λ k e. ap (option_map (λ j. stored item_.Ratio (integer (pos j)) (valued en item_.Ratio mm))) e) n small digits (eqb n 1) rest u begins all

  priority_by : (en : Items) (mm : Members) (n : ℕ) → n ≤ 999999999999999999 → IsRun (decimal n) → is_some (get_member (codes "priority") mm) ≡ false → (rest : List ℕ) (u : Sketch) → BeginsBlank rest
      → ReadsAll Within (within en (put (codes "priority") (number_entry 0 n) mm)) rest u → ReadsAll Within (within en mm) (short_item (codes "priority-group") 0 n ++ rest) u
  priority_by en mm n small digits none rest u begins all =
      short_by en item_.Priority (codes "priority") (codes "priority-group") (run_of (codes "priority-group") refl) mm (ap (λ x. if x then None else Some (valued en item_.Priority mm)) none)
      (λ k e. ap (option_map (λ j. stored item_.Priority (integer (pos j)) (valued en item_.Priority mm))) e) n small digits (eqb n 0) rest u begins all

  member_goes : (en : Items) (m : Member) → MemberReads m → Goes LineStart (listing en) (member_line m) LineStart (listing (push_item en (table (member_members m))))
  member_goes en m is =
      let addr = addr_text m.addr in
      let a : Entries = (codes "addr", Some (string addr)) ∷ [] in
      let b : Entries = (codes "addr", Some (string addr)) ∷ ((codes "ratio", number_entry 1 m.ratio) ∷ []) in
      let ma = puts a no_members in
      let mb = puts b no_members in
      let opened = now s (next.Opens block.Member) pm en ma no_items in
      let whole = within en (member_members m) in
      let t = listing (push_item en (table (member_members m))) in
      let one = short_item (codes "ratio") 1 m.ratio in
      let two = short_item (codes "priority-group") 0 m.priority in
      by_chain LineStart LineStart (listing en) t (codes "        " ∷ (addr ∷ (codes " {" ∷ (one ∷ (two ∷ (codes " }\n" ∷ []))))))
      (λ rest u all.
      let ending = 32 ∷ (125 ∷ (10 ∷ rest)) in
      let ended : ReadsAll Within whole ending u = blank whole u refl (125 ∷ (10 ∷ rest)) (close_all Within whole t u refl (10 ∷ rest) refl refl (newline t u refl rest all)) in
      let begins : BeginsBlank ending = (125 ∷ (10 ∷ rest), refl) in
      let read : ReadsAll Within (within en ma) (one ++ (two ++ ending)) u =
      ratio_by en ma m.ratio is.ratio_small is.ratio (lacks (codes "ratio") a refl) (two ++ ending) u (short_blank (codes "priority-group") m.priority (eqb m.priority 0) ending begins)
      (priority_by en mb m.priority is.priority_small is.priority (lacks (codes "priority") b refl) ending u begins ended) in
      indent_twice (listing en) u refl (addr ++ (32 ∷ (123 ∷ (one ++ (two ++ ending)))))
      (run_within (listing en) opened u refl addr 32 (123 ∷ (one ++ (two ++ ending))) is.addr refl refl
      (blank opened u refl (123 ∷ (one ++ (two ++ ending)))
      (open_all Within opened (within en ma) u refl (one ++ (two ++ ending)) refl refl read))))

  abbrev pool : Members → Sketch
  pool n = among s block.Pool n

  some_members : (ms : List Member) → Each MemberReads ms → is_some (get_member (codes "members") pm) ≡ false
      → Goes LineStart (pool pm) (joined (codes "    members {\n" ∷ (member_lines ms ∷ (codes "    }\n" ∷ [])))) LineStart (pool (with_member (codes "members") (array (pushed (λ m. table (member_members m)) no_items ms)) pm))
  some_members ms each none =
      let en = pushed (λ m. table (member_members m)) no_items ms in
      let v = value s item_.Members pm in
      let t = pool (with_member (codes "members") (array en) pm) in
      by_chain LineStart LineStart (pool pm) t (codes "    members {\n" ∷ (member_lines ms ∷ (codes "    }\n" ∷ [])))
      (λ rest u all.
      let ending = 32 ∷ (32 ∷ (32 ∷ (32 ∷ (125 ∷ (10 ∷ rest))))) in
      let ended : ReadsAll LineStart (listing en) ending u = indent (listing en) u refl (125 ∷ (10 ∷ rest)) (close_all Within (listing en) t u refl (10 ∷ rest) refl refl (newline t u refl rest all)) in
      let lines : ReadsAll LineStart (listing no_items) (member_lines ms ++ ending) u =
      all_go LineStart member_line listing (λ ds m. push_item ds (table (member_members m))) MemberReads member_goes ms each no_items ending u ended in
      indent (pool pm) u refl (codes "members" ++ (32 ∷ (123 ∷ (10 ∷ (member_lines ms ++ ending)))))
      (run_within (pool pm) v u refl (codes "members") 32 (123 ∷ (10 ∷ (member_lines ms ++ ending))) (run_of (codes "members") refl) refl (keyword s block.Pool item_.Members (codes "members") pm refl none)
      (blank v u refl (123 ∷ (10 ∷ (member_lines ms ++ ending)))
      (open_all Within v (listing no_items) u refl (10 ∷ (member_lines ms ++ ending)) refl refl
      (newline (listing no_items) u refl (member_lines ms ++ ending) lines)))))

  pub members_go : (ms : List Member) → Each MemberReads ms → is_some (get_member (codes "members") pm) ≡ false
      → Goes LineStart (pool pm) (members_item ms) LineStart (pool (put (codes "members") (array_entry (tables member_members ms)) pm))
  members_go [] each none = nothing LineStart (pool pm)
  members_go (m ∷ ms) each none =
      let text = joined (codes "    members {\n" ∷ (member_lines (m ∷ ms) ∷ (codes "    }\n" ∷ []))) in
      let t = pool (with_member (codes "members") (array (tables member_members (m ∷ ms))) pm) in
      let goes : Goes LineStart (pool pm) text LineStart t =
      subst (λ en. Goes LineStart (pool pm) text LineStart (pool (with_member (codes "members") (array en) pm))) (pushed_is (λ x. table (member_members x)) (m ∷ ms)) (some_members (m ∷ ms) each none) in
      subst (λ x. Goes LineStart (pool pm) (if x then [] else text) LineStart t) (sym (not_none m ms)) goes

  -- ---- the other items

  pub mode_goes : (method : Method) → is_some (get_member (codes "method") pm) ≡ false → Goes LineStart (pool pm) (mode_item method) LineStart (pool (put (codes "method") (method_entry method) pm))
  mode_goes RoundRobin none = nothing LineStart (pool pm)
  mode_goes Ratio none =
      item_goes (pool pm) (value s item_.Method pm) (pool (with_member (codes "method") (string (codes "ratio")) pm)) (codes "load-balancing-mode") (codes "ratio-member") refl refl refl
      (run_of (codes "load-balancing-mode") refl) (run_of (codes "ratio-member") refl) (keyword s block.Pool item_.Method (codes "load-balancing-mode") pm refl none) refl

  pub active_goes : (n : ℕ) → n ≤ 999999999999999999 → IsRun (decimal n) → is_some (get_member (codes "min_active") pm) ≡ false
      → Goes LineStart (pool pm) (number_item (codes "min-active-members") 0 n) LineStart (pool (put (codes "min_active") (number_entry 0 n) pm))
  active_goes n small digits none =
      number_goes pool (value s item_.MinActive pm) (codes "min_active") (codes "min-active-members") (run_of (codes "min-active-members") refl) pm (λ k. refl) refl
      (keyword s block.Pool item_.MinActive (codes "min-active-members") pm refl none)
      (λ k e. ap (option_map (λ j. stored item_.MinActive (integer (pos j)) (value s item_.MinActive pm))) e) 0 n small digits

-- ---- a pool

pub record PoolReads (p : PoolSettings) : Type 0 where
  pub name : IsRun p.name
  pub small : p.min_active ≤ 999999999999999999
  pub active : IsRun (decimal p.min_active)
  pub members : Each MemberReads p.members

abbrev pub with_pool : Sketch → PoolSettings → Sketch
with_pool s p = record s { pools = push_item s.pools (table (pool_members p)) }

module _ (s : Sketch) (p : PoolSettings) (is : PoolReads p) where
  abbrev at : Entries → Sketch
  at es = among s block.Pool (puts es no_members)

  items_go : Goes LineStart (at ((codes "name", Some (string p.name)) ∷ [])) (pool_items p) LineStart (at (pool_entries p))
  items_go =
      let e1 : Entries = (codes "name", Some (string p.name)) ∷ [] in
      let e2 : Entries = (codes "name", Some (string p.name)) ∷ ((codes "method", method_entry p.method) ∷ []) in
      let e3 : Entries = (codes "name", Some (string p.name)) ∷ ((codes "method", method_entry p.method) ∷ ((codes "min_active", number_entry 0 p.min_active) ∷ [])) in
      let last = at (pool_entries p) in
      let p1 = mode_item p.method in
      let p2 = number_item (codes "min-active-members") 0 p.min_active in
      let p3 = members_item p.members in
      piece (at e1) (at e2) last p1 (p2 ∷ (p3 ∷ [])) (mode_goes s (puts e1 no_members) p.method (lacks (codes "method") e1 refl))
      (piece (at e2) (at e3) last p2 (p3 ∷ []) (active_goes s (puts e2 no_members) p.min_active is.small is.active (lacks (codes "min_active") e2 refl))
      (piece (at e3) last last p3 [] (members_go s (puts e3 no_members) p.members is.members (lacks (codes "members") e3 refl)) (nothing LineStart last)))

  pub pool_goes : Goes LineStart (idle s next.Stanza) (pool_text p) LineStart (idle (with_pool s p) next.Stanza)
  pool_goes =
      stanza_goes s (with_pool s p) block.Pool section.Pool (codes "pool") p.name (pool_items p) (pool_members p) refl (run_of (codes "pool") refl) refl is.name items_go refl

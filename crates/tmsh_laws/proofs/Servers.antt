-- What is read of a virtual server in print.
use Rattle.std.proofs.Common.{◌≡◌, ℕ, ◌≤◌, Bool, true, false, eqb, List, [], ◌∷◌, ◌++◌, append_assoc, append-nil, length, map, Option, Some, None, refl, sym, ap, subst, ◌∙◌, arith}
use Rattle.std.proofs.lemmas.Bool.Decides.{nat_tests}
use Rattle.std.specs.Fmt.{decimal}
use Rattle.std.specs.Prelude.{codes, fold, if◌then◌else◌, is_some, option_map, pos}
use Rattle.toml.specs.Data.{Data, string, integer, boolean, array, table, Items, no_items, item as one_item, Members, no_members, get_member, push_item}
use Rattle.toml.specs.View.{items_of}
use Rattle.config.specs.declared.config.VirtualSettings.{VirtualSettings}
use Rattle.px_bytes.specs.Address.{addr_text}
use Rattle.run_config.specs.declared.config.Persist.{Persist}
use Rattle.run_config.specs.declared.config.Persist.TheVariants as persist
use Rattle.tmsh_laws.proofs.Lines.{Each, Goes, blank, both, by_chain, indent, item_goes, newline, nothing, number_entry, put}
use Rattle.tmsh_laws.proofs.Lookups.{found, get_puts}
use Rattle.tmsh_laws.proofs.Reading.{IsRun, ReadsAll, close_all, open_all, run_of, run_within}
use Rattle.tmsh_laws.proofs.Stanzas.{among, idle, now, number_goes, stanza_goes, value}
use Rattle.tmsh_laws.proofs.Tables.{Entries, array_entry, http_entry, names_items, persist_entry, pool_entry, puts, server_entries, server_members}
use Rattle.tmsh_read.specs.Grammar.{keyword_step, step}
use Rattle.tmsh_read.specs.Items.{item_of}
use Rattle.tmsh_read.specs.Sketch.{Sketch, closed, has, stored, to}
use Rattle.tmsh_read.specs.Tables.{with_member}
use Rattle.tmsh_read.proofs.GapKinds.{LineStart, Within}
use Rattle.tmsh_read.proofs.ReaderTypes.{Block, Item}
use Rattle.tmsh_read.proofs.ItemKinds as item_
use Rattle.tmsh_read.proofs.NextKinds as next
use Rattle.tmsh_read.proofs.BlockKinds as block
use Rattle.tmsh_read.proofs.SectionKinds as section
use Rattle.tmsh_read.proofs.TokenKinds.{Run}
use Rattle.tmsh_text.specs.Items.{item, joined, number_item}
use Rattle.tmsh_text.specs.Printed.{http_item, named_rules, persist_item, pool_item, rules_item, server_items, server_text}

-- ---- keywords

pub keyword : (s : Sketch) (b : Block) (i : Item) (w : List ℕ) (m : Members) → item_of b w ≡ Some i → has (among s b m) i ≡ false → step (among s b m) (Run w) ≡ Some (value s i m)
keyword s b i w m is none =
    ap (keyword_step (among s b m)) is ∙ ap (λ x. if x then None else Some (to (next.Value i) (among s b m))) none

-- a piece more
pub piece : (s t v : Sketch) (a : List ℕ) (ps : List (List ℕ)) → Goes LineStart s a LineStart t → Goes LineStart t (joined ps) LineStart v → Goes LineStart s (joined (a ∷ ps)) LineStart v
piece s t v a ps p q = both LineStart LineStart LineStart s t v a (joined ps) p q

-- ---- lists

abbrev joins : Items → Items → Items
joins no_items es = es
joins (one_item d ds) es = one_item d (joins ds es)

joins_none : (ds : Items) → ds ≡ joins ds no_items
joins_none no_items = refl
joins_none (one_item d ds) = ap (one_item d) (joins_none ds)

push_join : (ds es : Items) (e : Data) → joins (push_item ds e) es ≡ joins ds (one_item e es)
push_join no_items es e = refl
push_join (one_item d ds) es e = ap (one_item d) (push_join ds es e)

module _ {A : Type 0} (f : A → Data) where
  abbrev pub pushed : Items → List A → Items
  pushed en xs = fold (λ ds x. push_item ds (f x)) en xs

  pushed_on : (xs : List A) (ds : Items) → pushed ds xs ≡ joins ds (items_of (map f xs))
  pushed_on [] ds = joins_none ds
  pushed_on (x ∷ xs) ds = pushed_on xs (push_item ds (f x)) ∙ push_join ds (items_of (map f xs)) (f x)

  pub pushed_is : (xs : List A) → pushed no_items xs ≡ items_of (map f xs)
  pushed_is xs = pushed_on xs no_items

pub not_none : {A : Type 0} (x : A) (xs : List A) → eqb (length (x ∷ xs)) 0 ≡ false
not_none x xs = grind (arith, nat_tests)

-- what is one run where it is there
abbrev pub MaybeRun : Option (List ℕ) → Type 0
MaybeRun None = Unit {0}
MaybeRun (Some w) = IsRun w

-- ---- names of rules

-- what stands behind the first blank
abbrev behind_blank : List (List ℕ) → List ℕ → List ℕ
behind_blank [] more = more
behind_blank (name ∷ names) more = name ++ (32 ∷ behind_blank names more)

spaced : (names : List (List ℕ)) (more : List ℕ) → named_rules names ++ (32 ∷ more) ≡ 32 ∷ behind_blank names more
spaced [] more = refl
spaced (name ∷ names) more =
    ap (λ x. 32 ∷ x)
    (ap (λ x. (x ++ named_rules names) ++ (32 ∷ more)) (append-nil name) ∙ append_assoc name (named_rules names) (32 ∷ more) ∙ ap (λ x. name ++ x) (spaced names more))

module _ (s : Sketch) (m : Members) where
  abbrev naming : Items → Sketch
  naming en = now s next.Names m en no_members no_items

  names_all : (names : List (List ℕ)) → Each IsRun names → (en : Items) (more : List ℕ) (u : Sketch) → ReadsAll Within (naming (pushed string en names)) (32 ∷ more) u
      → ReadsAll Within (naming en) (32 ∷ behind_blank names more) u
  names_all [] each en more u all = all
  names_all (name ∷ names) each en more u all =
      let one = push_item en (string name) in
      blank (naming en) u refl (name ++ (32 ∷ behind_blank names more))
      (run_within (naming en) (naming one) u refl name 32 (behind_blank names more) each.0 refl refl (names_all names each.1 one more u all))

  abbrev server : Members → Sketch
  server n = among s block.Server n

  some_names : (name : List ℕ) (names : List (List ℕ)) → Each IsRun (name ∷ names) → is_some (get_member (codes "rules") m) ≡ false
      → Goes LineStart (server m) (joined (codes "    rules {" ∷ (named_rules (name ∷ names) ∷ (codes " }\n" ∷ [])))) LineStart (server (with_member (codes "rules") (array (pushed string no_items (name ∷ names))) m))
  some_names name names each none =
      let en = pushed string no_items (name ∷ names) in
      let v = value s item_.RuleNames m in
      let t = server (with_member (codes "rules") (array en) m) in
      by_chain LineStart LineStart (server m) t (codes "    rules {" ∷ (named_rules (name ∷ names) ∷ (codes " }\n" ∷ [])))
      (λ rest u all.
      let behind = 125 ∷ (10 ∷ rest) in
      let texts = named_rules (name ∷ names) ++ (32 ∷ behind) in
      let ended : ReadsAll Within (naming en) (32 ∷ behind) u = blank (naming en) u refl behind (close_all Within (naming en) t u refl (10 ∷ rest) refl refl (newline t u refl rest all)) in
      let read : ReadsAll Within (naming no_items) texts u =
      subst (λ x. ReadsAll Within (naming no_items) x u) (sym (spaced (name ∷ names) behind)) (names_all (name ∷ names) each no_items behind u ended) in
      indent (server m) u refl (codes "rules" ++ (32 ∷ (123 ∷ texts)))
      (run_within (server m) v u refl (codes "rules") 32 (123 ∷ texts) (run_of (codes "rules") refl) refl (keyword s block.Server item_.RuleNames (codes "rules") m refl none)
      (blank v u refl (123 ∷ texts)
      (open_all Within v (naming no_items) u refl texts refl refl read))))

  rules_go : (names : List (List ℕ)) → Each IsRun names → is_some (get_member (codes "rules") m) ≡ false
      → Goes LineStart (server m) (rules_item names) LineStart (server (put (codes "rules") (array_entry (names_items names)) m))
  rules_go [] each none = nothing LineStart (server m)
  rules_go (name ∷ names) each none =
      let text = joined (codes "    rules {" ∷ (named_rules (name ∷ names) ∷ (codes " }\n" ∷ []))) in
      let goes : Goes LineStart (server m) text LineStart (server (with_member (codes "rules") (array (names_items (name ∷ names))) m)) =
      subst (λ en. Goes LineStart (server m) text LineStart (server (with_member (codes "rules") (array en) m))) (pushed_is string (name ∷ names)) (some_names name names each none) in
      subst (λ x. Goes LineStart (server m) (if x then [] else text) LineStart (server (with_member (codes "rules") (array (names_items (name ∷ names))) m))) (sym (not_none name names)) goes

  -- ---- the other items

  listen_goes : (addr : List ℕ) → IsRun addr → is_some (get_member (codes "listen") m) ≡ false
      → Goes LineStart (server m) (item (codes "destination") addr) LineStart (server (with_member (codes "listen") (string addr) m))
  listen_goes addr run none =
      item_goes (server m) (value s item_.Listen m) (server (with_member (codes "listen") (string addr) m)) (codes "destination") addr refl refl refl (run_of (codes "destination") refl) run
      (keyword s block.Server item_.Listen (codes "destination") m refl none) refl

  http_goes : (http : Bool) → is_some (get_member (codes "http") m) ≡ false → Goes LineStart (server m) (http_item http) LineStart (server (put (codes "http") (http_entry http) m))
  http_goes false none rest u all = all
  http_goes true none rest u all =
      let v = value s item_.Http m in
      let h = now s next.Http m no_items no_members no_items in
      let e = now s next.HttpEnd m no_items no_members no_items in
      let t = server (with_member (codes "http") (boolean true) m) in
      let last = 10 ∷ rest in
      indent (server m) u refl (codes "profiles" ++ (32 ∷ (123 ∷ (32 ∷ (codes "http" ++ (32 ∷ (125 ∷ last)))))))
      (run_within (server m) v u refl (codes "profiles") 32 (123 ∷ (32 ∷ (codes "http" ++ (32 ∷ (125 ∷ last))))) (run_of (codes "profiles") refl) refl
      (keyword s block.Server item_.Http (codes "profiles") m refl none)
      (blank v u refl (123 ∷ (32 ∷ (codes "http" ++ (32 ∷ (125 ∷ last)))))
      (open_all Within v h u refl (32 ∷ (codes "http" ++ (32 ∷ (125 ∷ last)))) refl refl
      (blank h u refl (codes "http" ++ (32 ∷ (125 ∷ last)))
      (run_within h e u refl (codes "http") 32 (125 ∷ last) (run_of (codes "http") refl) refl refl
      (blank e u refl (125 ∷ last)
      (close_all Within e t u refl last refl refl (newline t u refl rest all))))))))

  pool_goes : (name : Option (List ℕ)) → MaybeRun name → is_some (get_member (codes "pool") m) ≡ false
      → Goes LineStart (server m) (pool_item name) LineStart (server (put (codes "pool") (pool_entry name) m))
  pool_goes None run none = nothing LineStart (server m)
  pool_goes (Some name) run none =
      item_goes (server m) (value s item_.PoolName m) (server (with_member (codes "pool") (string name) m)) (codes "pool") name refl refl refl (run_of (codes "pool") refl) run
      (keyword s block.Server item_.PoolName (codes "pool") m refl none) refl

  word_goes : (w : List ℕ) → IsRun w → is_some (get_member (codes "persist") m) ≡ false
      → Goes LineStart (server m) (item (codes "persist") w) LineStart (server (with_member (codes "persist") (string w) m))
  word_goes w run none =
      item_goes (server m) (value s item_.Persist m) (server (with_member (codes "persist") (string w) m)) (codes "persist") w refl refl refl (run_of (codes "persist") refl) run
      (keyword s block.Server item_.Persist (codes "persist") m refl none) refl

  persist_goes : (p : Persist) → is_some (get_member (codes "persist") m) ≡ false → Goes LineStart (server m) (persist_item p) LineStart (server (put (codes "persist") (persist_entry p) m))
  persist_goes persist.None none = nothing LineStart (server m)
  persist_goes persist.SourceAddr none = word_goes (codes "source_addr") (run_of (codes "source_addr") refl) none
  persist_goes persist.Cookie none = word_goes (codes "cookie") (run_of (codes "cookie") refl) none

  timeout_goes : (n : ℕ) → n ≤ 999999999999999999 → IsRun (decimal n) → is_some (get_member (codes "persist_timeout") m) ≡ false
      → Goes LineStart (server m) (number_item (codes "persist-timeout") 180 n) LineStart (server (put (codes "persist_timeout") (number_entry 180 n) m))
  timeout_goes n small digits none =
      number_goes (among s block.Server) (value s item_.PersistTimeout m) (codes "persist_timeout") (codes "persist-timeout") (run_of (codes "persist-timeout") refl) m
      (λ k. refl) refl (keyword s block.Server item_.PersistTimeout (codes "persist-timeout") m refl none)
      (λ k e. ap (option_map (λ j. stored item_.PersistTimeout (integer (pos j)) (value s item_.PersistTimeout m))) e) 180 n small digits

-- ---- a virtual server

pub record ServerReads (v : VirtualSettings) : Type 0 where
  pub name : IsRun v.name
  pub listen : IsRun (addr_text v.listen)
  pub pool : MaybeRun v.pool
  pub small : v.persist_timeout ≤ 999999999999999999
  pub timeout : IsRun (decimal v.persist_timeout)
  pub rules : Each IsRun v.rules

pub lacks : (k : List ℕ) (es : Entries) → found k es None ≡ None → is_some (get_member k (puts es no_members)) ≡ false
lacks k es e = ap is_some (get_puts k es no_members ∙ e)

pub contains : (k : List ℕ) (es : Entries) (d : Data) → found k es None ≡ Some d → is_some (get_member k (puts es no_members)) ≡ true
contains k es d e = ap is_some (get_puts k es no_members ∙ e)

abbrev pub with_server : Sketch → VirtualSettings → Sketch
with_server s v = record s { servers = push_item s.servers (table (server_members v)) }

module _ (s : Sketch) (v : VirtualSettings) (is : ServerReads v) where
  abbrev at : Entries → Sketch
  at es = among s block.Server (puts es no_members)

  items_go : Goes LineStart (at ((codes "name", Some (string v.name)) ∷ [])) (server_items v) LineStart (at (server_entries v))
  items_go =
      let e1 : Entries = (codes "name", Some (string v.name)) ∷ [] in
      let e2 : Entries = (codes "name", Some (string v.name)) ∷ ((codes "listen", Some (string (addr_text v.listen))) ∷ []) in
      let e3 : Entries = (codes "name", Some (string v.name)) ∷ ((codes "listen", Some (string (addr_text v.listen))) ∷ ((codes "http", http_entry v.http) ∷ [])) in
      let e4 : Entries = (codes "name", Some (string v.name)) ∷ ((codes "listen", Some (string (addr_text v.listen))) ∷ ((codes "http", http_entry v.http) ∷ ((codes "pool", pool_entry v.pool) ∷ []))) in
      let e5 : Entries = (codes "name", Some (string v.name)) ∷ ((codes "listen", Some (string (addr_text v.listen))) ∷ ((codes "http", http_entry v.http) ∷ ((codes "pool", pool_entry v.pool) ∷ ((codes "persist", persist_entry v.persist) ∷ [])))) in
      let e6 : Entries = (codes "name", Some (string v.name)) ∷ ((codes "listen", Some (string (addr_text v.listen))) ∷ ((codes "http", http_entry v.http) ∷ ((codes "pool", pool_entry v.pool) ∷ ((codes "persist", persist_entry v.persist) ∷ ((codes "persist_timeout", number_entry 180 v.persist_timeout) ∷ []))))) in
      let last = at (server_entries v) in
      let p1 = item (codes "destination") (addr_text v.listen) in
      let p2 = http_item v.http in
      let p3 = pool_item v.pool in
      let p4 = persist_item v.persist in
      let p5 = number_item (codes "persist-timeout") 180 v.persist_timeout in
      let p6 = rules_item v.rules in
      piece (at e1) (at e2) last p1 (p2 ∷ (p3 ∷ (p4 ∷ (p5 ∷ (p6 ∷ []))))) (listen_goes s (puts e1 no_members) (addr_text v.listen) is.listen (lacks (codes "listen") e1 refl))
      (piece (at e2) (at e3) last p2 (p3 ∷ (p4 ∷ (p5 ∷ (p6 ∷ [])))) (http_goes s (puts e2 no_members) v.http (lacks (codes "http") e2 refl))
      (piece (at e3) (at e4) last p3 (p4 ∷ (p5 ∷ (p6 ∷ []))) (pool_goes s (puts e3 no_members) v.pool is.pool (lacks (codes "pool") e3 refl))
      (piece (at e4) (at e5) last p4 (p5 ∷ (p6 ∷ [])) (persist_goes s (puts e4 no_members) v.persist (lacks (codes "persist") e4 refl))
      (piece (at e5) (at e6) last p5 (p6 ∷ []) (timeout_goes s (puts e5 no_members) v.persist_timeout is.small is.timeout (lacks (codes "persist_timeout") e5 refl))
      (piece (at e6) last last p6 [] (rules_go s (puts e6 no_members) v.rules is.rules (lacks (codes "rules") e6 refl)) (nothing LineStart last))))))

  pub server_goes : Goes LineStart (idle s next.Stanza) (server_text v) LineStart (idle (with_server s v) next.Stanza)
  server_goes =
      let whole : is_some (get_member (codes "listen") (server_members v)) ≡ true = contains (codes "listen") (server_entries v) (string (addr_text v.listen)) refl in
      stanza_goes s (with_server s v) block.Server section.Server (codes "virtual") v.name (server_items v) (server_members v) refl (run_of (codes "virtual") refl) refl is.name items_go
      (ap (λ x. if x then Some (closed block.Server (at (server_entries v))) else None) whole)

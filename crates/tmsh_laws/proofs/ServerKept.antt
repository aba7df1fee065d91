-- The table of a virtual server in print is one without faults, and says the same.
use Rattle.std.proofs.Common.{◌≡◌, ℕ, ◌+◌, ◌-◌, ◌^◌, ◌≤◌, Bool, true, false, not, ◌&&◌, eqb, List, [], ◌∷◌, ◌++◌, Option, Some, None, refl, sym, ap, ap₂, ◌∙◌, arith}
use Rattle.std.proofs.lemmas.Bool.Decides.{nat_tests}
use Rattle.std.specs.Option.{option_map_or}
use Rattle.std.specs.Prelude.{codes, if◌then◌else◌, option_and_then, unwrap_or}
use Rattle.px_bytes.specs.Address.{addr_text}
use Rattle.px_bytes.specs.declared.addr.Addr.{Addr}
use Rattle.run_config.specs.declared.config.Persist.{Persist}
use Rattle.run_config.specs.declared.config.Persist.TheVariants as persist
use Rattle.tcl_encodings.specs.Addr.{addr_of}
use Rattle.toml.specs.Data.{Data, string, Items, no_items, item, Members, no_members, as_array, as_bool, as_integer, as_str, get_member}
use Rattle.config.specs.Documents.{or_none}
use Rattle.config.specs.Faults.{fault_at}
use Rattle.config.specs.Keys as key
use Rattle.config.specs.Keys.{virtual_back, virtual_front, virtual_keys}
use Rattle.config.specs.Names.{missing, once_faults, there_faults, twice}
use Rattle.config.specs.Places.{item_place, key_place}
use Rattle.config.specs.Read.{among, array_at, chosen, is_true, truth_at}
use Rattle.config.specs.Settings.{addr_at, each, given, no_addr, one, persist_of, server_of, text_item, whole_at, whole_or}
use Rattle.config.specs.Tables.{faults_of, flaw_of, keys_faults, unknown_faults}
use Rattle.config.specs.Texts.{first_place, text_at}
use Rattle.config.specs.Virtuals.{by_cookie, cookie_faults, rule_faults, rules_from, rules_of, server_faults}
use Rattle.config.specs.declared.config.VirtualSettings.{VirtualSettings}
use Rattle.config.specs.declared.fault.ConfigFaultKind.TheVariants.{Range}
use Rattle.config.proofs.DocumentTypes.{Address, Name}
use Rattle.tmsh_laws.proofs.Kept.{Flawless, addr_back, all_known, array_ok, array_says, as_string, at_key, each_keys, flawless, keys_each, no_back, no_front, none, number_ok, number_says, optional_text, required_text, same_missing, same_twice, whole_kept}
use Rattle.tmsh_laws.proofs.Lines.{Each, number_entry}
use Rattle.tmsh_laws.proofs.Tables.{array_entry, http_entry, names_items, persist_entry, pool_entry, server_entries, server_members}

-- ---- lists of texts

pub texts_back : (xs : List (List ℕ)) → each text_item (names_items xs) ≡ xs
texts_back [] = refl
texts_back (x ∷ xs) = ap (λ ys. x ∷ ys) (texts_back xs)

module _ (rules own : List ℕ → Option ℕ) (prefix : List ℕ) where
  -- all of them are texts
  all_texts : (at : ℕ) (ds : Items) → rules_from rules own prefix at ds ≡ [] → names_items (each text_item ds) ≡ ds
  all_texts at no_items e = refl
  all_texts at (item d ds) e =
      let place = item_place prefix key.rule_names.name at in
      let more = all_texts (at + 1) ds (no_back (rule_faults rules own place at (as_str d)) (rules_from rules own prefix (at + 1) ds) e) in
      by_text (as_str d) refl (no_front (rule_faults rules own place at (as_str d)) (rules_from rules own prefix (at + 1) ds) e) more
    where
      by_text : (o : Option (List ℕ)) → as_str d ≡ o → rule_faults rules own (item_place prefix key.rule_names.name at) at o ≡ [] → names_items (each text_item ds) ≡ ds
          → names_items (one o ++ each text_item ds) ≡ item d ds
      by_text None is e more = absurd (cc)
      by_text (Some t) is e more = ap₂ item (sym (as_string d t is)) more

  module _ (others : List ℕ → Option ℕ) (same : (t : List ℕ) → others t ≡ rules t) where
    still_there : (at : ℕ) (ds : Items) → rules_from rules own prefix at ds ≡ [] → rules_from others own prefix at ds ≡ []
    still_there at no_items e = refl
    still_there at (item d ds) e =
        let place = item_place prefix key.rule_names.name at in
        none (rule_faults others own place at (as_str d)) (rules_from others own prefix (at + 1) ds)
        (by_text place (as_str d) (no_front (rule_faults rules own place at (as_str d)) (rules_from rules own prefix (at + 1) ds) e))
        (still_there (at + 1) ds (no_back (rule_faults rules own place at (as_str d)) (rules_from rules own prefix (at + 1) ds) e))
      where
        by_text : (place : List ℕ) (o : Option (List ℕ)) → rule_faults rules own place at o ≡ [] → rule_faults others own place at o ≡ []
        by_text place None e = e
        by_text place (Some t) e = ap (λ m. faults_of place (twice own at (Some t)) ++ faults_of place m) (same_missing others rules same (Some t)) ∙ e

-- by what stands there: an array, or nothing
rules_says : (rules : List ℕ → Option ℕ) (prefix : List ℕ) (ds : Items) → rules_of rules prefix (option_and_then as_array (array_entry ds)) ≡ rules_from rules (first_place None ds) prefix 0 ds
rules_says rules prefix no_items = refl
rules_says rules prefix (item d ds) = refl

pub rules_in : (rules : List ℕ → Option ℕ) (prefix : List ℕ) (o : Option Items) → rules_of rules prefix o ≡ [] → rules_from rules (first_place None (or_none o)) prefix 0 (or_none o) ≡ []
rules_in rules prefix None e = refl
rules_in rules prefix (Some ds) e = e

-- ---- persistence

abbrev is_cookie : Persist → Bool
is_cookie persist.None = false
is_cookie persist.SourceAddr = false
is_cookie persist.Cookie = true

cookie_of : (o : Option ℕ) → option_map_or (λ n. eqb n 2) o false ≡ is_cookie (persist_of o)
cookie_of None = refl
cookie_of (Some n) = by_tests (eqb n 1) (eqb n 2) refl refl
  where
    by_tests : (a b : Bool) → eqb n 1 ≡ a → eqb n 2 ≡ b → b ≡ is_cookie (if a then persist.SourceAddr else (if b then persist.Cookie else persist.None))
    by_tests true true p q = absurd (grind (arith, nat_tests, p, q))
    by_tests true false p q = refl
    by_tests false true p q = refl
    by_tests false false p q = refl

persist_ok : (p : Persist) → flaw_of key.persist (persist_entry p) ≡ None
persist_ok persist.None = refl
persist_ok persist.SourceAddr = refl
persist_ok persist.Cookie = refl

abbrev persist_by : Option Data → Persist
persist_by o = persist_of (option_and_then (among key.persist.kind) (option_and_then as_str o))

persist_says : (p : Persist) → persist_by (persist_entry p) ≡ p
persist_says persist.None = refl
persist_says persist.SourceAddr = refl
persist_says persist.Cookie = refl

http_ok : (http : Bool) → flaw_of key.http (http_entry http) ≡ None
http_ok true = refl
http_ok false = refl

http_says : (http : Bool) → is_true (option_and_then as_bool (http_entry http)) ≡ http
http_says true = refl
http_says false = refl

-- ---- a virtual server

pub record Parts (servers listens pools rules : List ℕ → Option ℕ) (prefix : List ℕ) (at : ℕ) (ms : Members) : Type 0 where
  pub front : Each (Flawless ms) virtual_front
  pub cookie : cookie_faults prefix ms ≡ []
  pub back : Each (Flawless ms) virtual_back
  pub unknown : unknown_faults prefix virtual_keys ms ≡ []
  pub once_name : once_faults servers at prefix key.name_key ms ≡ []
  pub once_listen : once_faults listens at prefix key.listen ms ≡ []
  pub there : there_faults pools prefix key.pool_name ms ≡ []
  pub its : rules_of rules prefix (array_at key.rule_names ms) ≡ []

module _ (servers listens pools rules : List ℕ → Option ℕ) (prefix : List ℕ) (at : ℕ) (ms : Members) where
  pub parts : server_faults servers listens pools rules prefix at ms ≡ [] → Parts servers listens pools rules prefix at ms
  parts e =
      let front = keys_faults prefix virtual_front ms in
      let cookie = cookie_faults prefix ms in
      let back = keys_faults prefix virtual_back ms in
      let unknown = unknown_faults prefix virtual_keys ms in
      let once_n = once_faults servers at prefix key.name_key ms in
      let once_l = once_faults listens at prefix key.listen ms in
      let there = there_faults pools prefix key.pool_name ms in
      let its = rules_of rules prefix (array_at key.rule_names ms) in
      let e1 : cookie ++ (back ++ (unknown ++ (once_n ++ (once_l ++ (there ++ its))))) ≡ [] = no_back front _ e in
      let e2 : back ++ (unknown ++ (once_n ++ (once_l ++ (there ++ its)))) ≡ [] = no_back cookie _ e1 in
      let e3 : unknown ++ (once_n ++ (once_l ++ (there ++ its))) ≡ [] = no_back back _ e2 in
      let e4 : once_n ++ (once_l ++ (there ++ its)) ≡ [] = no_back unknown _ e3 in
      let e5 : once_l ++ (there ++ its) ≡ [] = no_back once_n _ e4 in
      let e6 : there ++ its ≡ [] = no_back once_l _ e5 in
      record {
        front = keys_each prefix virtual_front ms (no_front front _ e);
        cookie = no_front cookie _ e1;
        back = keys_each prefix virtual_back ms (no_front back _ e2);
        unknown = no_front unknown _ e3;
        once_name = no_front once_n _ e4;
        once_listen = no_front once_l _ e5;
        there = no_front there its e6;
        its = no_back there its e6;
      }

  whole : Parts servers listens pools rules prefix at ms → server_faults servers listens pools rules prefix at ms ≡ []
  whole is =
      none _ _ (each_keys prefix virtual_front ms is.front) (none _ _ is.cookie (none _ _ (each_keys prefix virtual_back ms is.back)
      (none _ _ is.unknown (none _ _ is.once_name (none _ _ is.once_listen (none _ _ is.there is.its))))))

pub record ServerKept (servers listens pools rules : List ℕ → Option ℕ) (prefix : List ℕ) (at : ℕ) (ms : Members) : Type 0 where
  pub faultless : server_faults servers listens pools rules prefix at (server_members (server_of ms)) ≡ []
  pub says : server_of (server_members (server_of ms)) ≡ server_of ms
  pub name : text_at key.name_key.name (server_members (server_of ms)) ≡ text_at key.name_key.name ms
  pub listen : text_at key.listen.name (server_members (server_of ms)) ≡ text_at key.listen.name ms

module _ (servers listens pools rules servers_ listens_ pools_ rules_ : List ℕ → Option ℕ)
    (same_servers : (t : List ℕ) → servers_ t ≡ servers t) (same_listens : (t : List ℕ) → listens_ t ≡ listens t)
    (same_pools : (t : List ℕ) → pools_ t ≡ pools t) (same_rules : (t : List ℕ) → rules_ t ≡ rules t)
    (prefix : List ℕ) (at : ℕ) (ms : Members) (is : Parts servers listens pools rules prefix at ms) where
  abbrev v : VirtualSettings
  v = server_of ms

  abbrev d : Members
  d = server_members v

  -- what stands in the new table
  new_name : get_member (codes "name") d ≡ get_member (codes "name") ms
  new_name =
      let (t, there, form) = required_text (codes "name") Name (get_member (codes "name") ms) is.front.0 in
      at_key (server_entries v) (codes "name") (Some (string v.name)) refl ∙ ap (λ o. Some (string (unwrap_or (option_and_then as_str o) []))) there ∙ sym there

  new_listen : get_member (codes "listen") d ≡ get_member (codes "listen") ms
  new_listen =
      let (t, there, form) = required_text (codes "listen") Address (get_member (codes "listen") ms) is.front.1.0 in
      at_key (server_entries v) (codes "listen") (Some (string (addr_text v.listen))) refl
      ∙ ap (λ o. Some (string (addr_text (unwrap_or (option_and_then addr_of (option_and_then as_str o)) no_addr)))) there
      ∙ ap (λ x. Some (string x)) (addr_back t form) ∙ sym there

  new_http : get_member (codes "http") d ≡ http_entry v.http
  new_http = at_key (server_entries v) (codes "http") (http_entry v.http) refl

  new_pool : get_member (codes "pool") d ≡ get_member (codes "pool") ms
  new_pool = at_key (server_entries v) (codes "pool") (pool_entry v.pool) refl ∙ optional_text (codes "pool") (get_member (codes "pool") ms) is.front.1.1.1.0

  new_persist : get_member (codes "persist") d ≡ persist_entry v.persist
  new_persist = at_key (server_entries v) (codes "persist") (persist_entry v.persist) refl

  new_timeout : get_member (codes "persist_timeout") d ≡ number_entry 180 v.persist_timeout
  new_timeout = at_key (server_entries v) (codes "persist_timeout") (number_entry 180 v.persist_timeout) refl

  timeout_in : (1 ≤ v.persist_timeout) × (v.persist_timeout ≤ 86400)
  timeout_in = whole_kept 1 86400 180 (codes "persist_timeout") (get_member (codes "persist_timeout") ms) (omega arith, omega arith) is.back.0

  abbrev old : Items
  old = or_none (array_at key.rule_names ms)

  old_rules : rules_from rules (first_place None old) prefix 0 old ≡ []
  old_rules = rules_in rules prefix (array_at key.rule_names ms) is.its

  same_items : names_items v.rules ≡ old
  same_items = all_texts rules (first_place None old) prefix 0 old old_rules

  new_rules : get_member (codes "rules") d ≡ array_entry old
  new_rules = at_key (server_entries v) (codes "rules") (array_entry (names_items v.rules)) refl ∙ ap array_entry same_items

  -- cookies
  cookie_old : by_cookie ms ≡ is_cookie v.persist
  cookie_old = cookie_of (chosen key.persist ms)

  cookie_new : by_cookie d ≡ is_cookie v.persist
  cookie_new = cookie_of (chosen key.persist d) ∙ ap (λ o. is_cookie (persist_by o)) new_persist ∙ ap is_cookie (persist_says v.persist)

  truth_new : truth_at key.http d ≡ v.http
  truth_new = ap (λ o. is_true (option_and_then as_bool o)) new_http ∙ http_says v.http

  still_cookie : cookie_faults prefix d ≡ []
  still_cookie =
      let fault = fault_at Range (key_place prefix key.persist.name) ∷ [] in
      ap₂ (λ a b. if a && not b then fault else []) (cookie_new ∙ sym cookie_old) truth_new ∙ is.cookie

  new_parts : Parts servers_ listens_ pools_ rules_ prefix at d
  new_parts = record {
    front = (
      flawless d key.name_key (get_member (codes "name") ms) new_name is.front.0,
      (
        flawless d key.listen (get_member (codes "listen") ms) new_listen is.front.1.0,
        (
          flawless d key.http (http_entry v.http) new_http (http_ok v.http),
          (
            flawless d key.pool_name (get_member (codes "pool") ms) new_pool is.front.1.1.1.0,
            (flawless d key.persist (persist_entry v.persist) new_persist (persist_ok v.persist), tt),
          ),
        ),
      ),
    );
    cookie = still_cookie;
    back = (
      flawless d key.persist_timeout (number_entry 180 v.persist_timeout) new_timeout (number_ok 1 86400 180 (codes "persist_timeout") v.persist_timeout timeout_in),
      (flawless d key.rule_names (array_entry old) new_rules (array_ok (codes "rules") (2 ^ 64 - 1) (get_member (codes "rules") ms) old refl is.back.1.0), tt),
    );
    unknown = all_known prefix virtual_keys (server_entries v) no_members (refl, (refl, (refl, (refl, (refl, (refl, (refl, tt))))))) refl;
    once_name =
        ap (faults_of (key_place prefix key.name_key.name)) (ap (λ o. twice servers_ at (option_and_then as_str o)) new_name ∙ same_twice servers_ servers same_servers at (text_at key.name_key.name ms))
        ∙ is.once_name;
    once_listen =
        ap (faults_of (key_place prefix key.listen.name)) (ap (λ o. twice listens_ at (option_and_then as_str o)) new_listen ∙ same_twice listens_ listens same_listens at (text_at key.listen.name ms))
        ∙ is.once_listen;
    there =
        ap (faults_of (key_place prefix key.pool_name.name)) (ap (λ o. missing pools_ (option_and_then as_str o)) new_pool ∙ same_missing pools_ pools same_pools (text_at key.pool_name.name ms))
        ∙ is.there;
    its =
        ap (λ o. rules_of rules_ prefix (option_and_then as_array o)) new_rules ∙ rules_says rules_ prefix old
        ∙ still_there rules (first_place None old) prefix rules_ same_rules 0 old old_rules;
  }

  -- what it says
  says_name : given key.name_key d ≡ v.name
  says_name = ap (λ o. unwrap_or (option_and_then as_str o) []) new_name

  says_listen : addr_at key.listen d ≡ v.listen
  says_listen = ap (λ o. unwrap_or (option_and_then addr_of (option_and_then as_str o)) no_addr) new_listen

  says_pool : text_at key.pool_name.name d ≡ v.pool
  says_pool = ap (option_and_then as_str) new_pool

  says_persist : persist_of (chosen key.persist d) ≡ v.persist
  says_persist = ap persist_by new_persist ∙ persist_says v.persist

  says_timeout : whole_at key.persist_timeout d ≡ v.persist_timeout
  says_timeout = ap (λ o. whole_or key.persist_timeout.kind (option_and_then as_integer o)) new_timeout ∙ number_says 1 86400 180 v.persist_timeout timeout_in

  says_rules : each text_item (or_none (array_at key.rule_names d)) ≡ v.rules
  says_rules = ap (λ o. each text_item (or_none (option_and_then as_array o))) new_rules ∙ ap (each text_item) (array_says old)

  abbrev made : List ℕ → Addr → Bool → Option (List ℕ) → Persist → ℕ → List (List ℕ) → VirtualSettings
  made n a h p s t rs = record { name = n; listen = a; http = h; pool = p; persist = s; persist_timeout = t; rules = rs }

  says : server_of d ≡ v
  says =
      let n = given key.name_key d in
      let a = addr_at key.listen d in
      let h = truth_at key.http d in
      let p = text_at key.pool_name.name d in
      let s = persist_of (chosen key.persist d) in
      let t = whole_at key.persist_timeout d in
      ap (λ rs. made n a h p s t rs) says_rules ∙ ap (λ x. made n a h p s x v.rules) says_timeout ∙ ap (λ x. made n a h p x v.persist_timeout v.rules) says_persist
      ∙ ap (λ x. made n a h x v.persist v.persist_timeout v.rules) says_pool ∙ ap (λ x. made n a x v.pool v.persist v.persist_timeout v.rules) truth_new
      ∙ ap (λ x. made n x v.http v.pool v.persist v.persist_timeout v.rules) says_listen ∙ ap (λ x. made x v.listen v.http v.pool v.persist v.persist_timeout v.rules) says_name

module _ (servers listens pools rules servers_ listens_ pools_ rules_ : List ℕ → Option ℕ)
    (same_servers : (t : List ℕ) → servers_ t ≡ servers t) (same_listens : (t : List ℕ) → listens_ t ≡ listens t)
    (same_pools : (t : List ℕ) → pools_ t ≡ pools t) (same_rules : (t : List ℕ) → rules_ t ≡ rules t) where
  pub server_kept : (prefix : List ℕ) (at : ℕ) (ms : Members) → server_faults servers listens pools rules prefix at ms ≡ [] → ServerKept servers_ listens_ pools_ rules_ prefix at ms
  server_kept prefix at ms e =
      let is = parts servers listens pools rules prefix at ms e in
      let new = new_parts servers listens pools rules servers_ listens_ pools_ rules_ same_servers same_listens same_pools same_rules prefix at ms is in
      record {
        faultless = whole servers_ listens_ pools_ rules_ prefix at (server_members (server_of ms)) new;
        says = says servers listens pools rules servers_ listens_ pools_ rules_ same_servers same_listens same_pools same_rules prefix at ms is;
        name = ap (option_and_then as_str) (new_name servers listens pools rules servers_ listens_ pools_ rules_ same_servers same_listens same_pools same_rules prefix at ms is);
        listen = ap (option_and_then as_str) (new_listen servers listens pools rules servers_ listens_ pools_ rules_ same_servers same_listens same_pools same_rules prefix at ms is);
      }

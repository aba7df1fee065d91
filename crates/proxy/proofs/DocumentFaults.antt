-- No fault of a document is that a file can't be read.
use Rattle.std.proofs.Common.{◌≡◌, ℕ, ◌+◌, ◌==◌, Bool, true, false, cond, ◌&&◌, List, [], ◌∷◌, ◌++◌, Option, Some, None, IfSome, refl}
use Rattle.std.specs.Prelude.{fold, is_some, not}
use Rattle.std.specs.Option.{option_map_or}
use Rattle.toml.specs.Data.{Data, Items, no_items, item, Members, no_members, member, as_str, as_table, get_member}
use Rattle.config.specs.Documents.{Names, document_fault, document_faults, faults_with, item_faults, names_in, section_from, section_key, section_of, table_faults}
use Rattle.config.specs.Faults.{better, comes_first, fault_at}
use Rattle.config.specs.Groups.{group_faults, group_kind, row_flaw, rows_from, rows_of}
use Rattle.config.specs.Keys as key
use Rattle.config.specs.Keys.{TableKey, addr, group_keys, groups, listen, member_keys, members, name_key, persist, pool_keys, pool_name, pools, rows, rule_file, rule_keys, rule_names, rule_text, servers, top_keys, virtual_back, virtual_front, virtual_keys, http}
use Rattle.config.specs.Names.{missing, once_faults, there_faults, twice}
use Rattle.config.specs.Places.{item_place, key_place, prefix_of}
use Rattle.config.specs.Pools.{member_at, members_from, members_of, pool_faults, pool_keys_faults}
use Rattle.config.specs.Read.{array_at, member_count, truth_at}
use Rattle.config.specs.Rules as rules
use Rattle.config.specs.Rules.{has, source_faults}
use Rattle.config.specs.Tables.{faults_of, flaw_of, is_known, key_faults, key_flaw, keys_faults, unknown_at, unknown_faults}
use Rattle.config.specs.Texts.{first_place, text_at}
use Rattle.config.specs.Values.{fits, judged}
use Rattle.config.specs.Virtuals.{by_cookie, rule_faults, rules_from, rules_of, server_faults}
use Rattle.config.specs.declared.fault.ConfigFault.{ConfigFault}
use Rattle.config.specs.declared.fault.ConfigFaultKind.{ConfigFaultKind}
use Rattle.config.specs.declared.fault.ConfigFaultKind.TheVariants.{UnknownKey, WrongKind, Range, Twice, NoSuch}
use Rattle.config.specs.declared.section.Section.{Section}
use Rattle.config.specs.declared.section.Section.TheVariants.{Virtual, Pool, Rule, Group}
use Rattle.proxy.specs.Loads.{is_read_fault}

abbrev OfFile : ConfigFaultKind → Type 0
OfFile kind = is_read_fault kind ≡ false

abbrev Fine : Option ConfigFaultKind → Type 0
Fine o = IfSome o OfFile

abbrev IsFine : Option ConfigFault → Type 0
IsFine o = IfSome o (λ f. OfFile f.kind)

abbrev AllFine : List ConfigFault → Type 0
AllFine [] = Unit {0}
AllFine (f ∷ fs) = OfFile f.kind × AllFine fs

both : (a b : List ConfigFault) → AllFine a → AllFine b → AllFine (a ++ b)
both [] b p q = q
both (f ∷ a) b p q = (p.0, both a b p.1 q)

-- the one that is told

chosen : (b : Bool) (o : Option ConfigFault) (f : ConfigFault) → IsFine o → OfFile f.kind → IsFine (cond b (Some f) o)
chosen true o f p q = q
chosen false o f p q = p

told : (faults : List ConfigFault) (o : Option ConfigFault) → IsFine o → AllFine faults → IsFine (fold better o faults)
told [] o p q = p
told (f ∷ fs) o p q = told fs (better o f) (chosen (comes_first f.kind o) o f p q.0) q.1

-- at a place

at_place : (place : List ℕ) (o : Option ConfigFaultKind) → Fine o → AllFine (faults_of place o)
at_place place None p = tt
at_place place (Some kind) p = (p, tt)

judges : (o : Option Bool) → Fine (judged o)
judges None = refl
judges (Some true) = tt
judges (Some false) = refl

required : (b : Bool) → Fine (cond b (Some WrongKind) None)
required true = refl
required false = tt

at_key : (key : TableKey) (o : Option Data) → Fine (flaw_of key o)
at_key key None = required key.required
at_key key (Some d) = judges (fits key.kind d)

second : (b : Bool) → Fine (cond b None (Some Twice))
second true = tt
second false = refl

is_twice : (first : List ℕ → Option ℕ) (at : ℕ) (o : Option (List ℕ)) → Fine (twice first at o)
is_twice first at None = tt
is_twice first at (Some text) = second (option_map_or (λ n. n == at) (first text) false)

absent : (b : Bool) → Fine (cond b None (Some NoSuch))
absent true = tt
absent false = refl

is_missing : (first : List ℕ → Option ℕ) (o : Option (List ℕ)) → Fine (missing first o)
is_missing first None = tt
is_missing first (Some text) = absent (is_some (first text))

-- of a table

keys : (prefix : List ℕ) (ks : List TableKey) (ms : Members) → AllFine (keys_faults prefix ks ms)
keys prefix [] ms = tt
keys prefix (k ∷ ks) ms = both (key_faults prefix ms k) (keys_faults prefix ks ms) (at_place (key_place prefix k.name) (key_flaw k ms) (at_key k (get_member k.name ms))) (keys prefix ks ms)

not_known : (b : Bool) (place : List ℕ) → AllFine (cond b [] (fault_at UnknownKey place ∷ []))
not_known true place = tt
not_known false place = (refl, tt)

unknown : (prefix : List ℕ) (ks : List TableKey) (ms : Members) → AllFine (unknown_faults prefix ks ms)
unknown prefix ks no_members = tt
unknown prefix ks (member name d ms) = both (unknown_at prefix ks name) (unknown_faults prefix ks ms) (not_known (is_known ks name) (key_place prefix name)) (unknown prefix ks ms)

once : (first : List ℕ → Option ℕ) (at : ℕ) (prefix : List ℕ) (key : TableKey) (ms : Members) → AllFine (once_faults first at prefix key ms)
once first at prefix key ms = at_place (key_place prefix key.name) (twice first at (text_at key.name ms)) (is_twice first at (text_at key.name ms))

there : (first : List ℕ → Option ℕ) (prefix : List ℕ) (key : TableKey) (ms : Members) → AllFine (there_faults first prefix key ms)
there first prefix key ms = at_place (key_place prefix key.name) (missing first (text_at key.name ms)) (is_missing first (text_at key.name ms))

out_of_range : (b : Bool) (place : List ℕ) → AllFine (cond b (fault_at Range place ∷ []) [])
out_of_range true place = (refl, tt)
out_of_range false place = tt

-- of a virtual server

rule_name : (all own : List ℕ → Option ℕ) (place : List ℕ) (at : ℕ) (o : Option (List ℕ)) → AllFine (rule_faults all own place at o)
rule_name all own place at None = (refl, tt)
rule_name all own place at (Some name) =
    both (faults_of place (twice own at (Some name))) (faults_of place (missing all (Some name))) (at_place place (twice own at (Some name)) (is_twice own at (Some name))) (at_place place (missing all (Some name)) (is_missing all (Some name)))

rule_list : (all own : List ℕ → Option ℕ) (prefix : List ℕ) (at : ℕ) (ds : Items) → AllFine (rules_from all own prefix at ds)
rule_list all own prefix at no_items = tt
rule_list all own prefix at (item d ds) =
    both (rule_faults all own (item_place prefix rule_names.name at) at (as_str d)) (rules_from all own prefix (at + 1) ds) (rule_name all own (item_place prefix rule_names.name at) at (as_str d)) (rule_list all own prefix (at + 1) ds)

its_rules : (all : List ℕ → Option ℕ) (prefix : List ℕ) (o : Option Items) → AllFine (rules_of all prefix o)
its_rules all prefix None = tt
its_rules all prefix (Some ds) = rule_list all (first_place None ds) prefix 0 ds

server : (n : Names) (prefix : List ℕ) (at : ℕ) (ms : Members) → AllFine (server_faults n.servers n.listens n.pools n.rules prefix at ms)
server n prefix at ms =
    both _ _ (keys prefix virtual_front ms) (both _ _ (out_of_range (by_cookie ms && not (truth_at http ms)) (key_place prefix persist.name))
    (both _ _ (keys prefix virtual_back ms) (both _ _ (unknown prefix virtual_keys ms) (both _ _ (once n.servers at prefix name_key ms)
    (both _ _ (once n.listens at prefix listen ms) (both _ _ (there n.pools prefix pool_name ms) (its_rules n.rules prefix (array_at rule_names ms))))))))

-- of a pool

a_member : (n : Names) (own : List ℕ → Option ℕ) (place : List ℕ) (at : ℕ) (o : Option Members) → AllFine (member_at n.version own place at o)
a_member n own place at None = (refl, tt)
a_member n own place at (Some ms) =
    both _ _ (keys (prefix_of place) (member_keys n.version) ms) (both _ _ (unknown (prefix_of place) (member_keys n.version) ms) (once own at (prefix_of place) addr ms))

member_list : (n : Names) (own : List ℕ → Option ℕ) (prefix : List ℕ) (at : ℕ) (ds : Items) → AllFine (members_from n.version own prefix at ds)
member_list n own prefix at no_items = tt
member_list n own prefix at (item d ds) =
    both (member_at n.version own (item_place prefix members.name at) at (as_table d)) (members_from n.version own prefix (at + 1) ds)
    (a_member n own (item_place prefix members.name at) at (as_table d)) (member_list n own prefix (at + 1) ds)

its_members : (n : Names) (prefix : List ℕ) (o : Option Items) → AllFine (members_of n.version prefix o)
its_members n prefix None = tt
its_members n prefix (Some ds) = member_list n (first_place (Some addr.name) ds) prefix 0 ds

pool : (n : Names) (prefix : List ℕ) (at : ℕ) (ms : Members) → AllFine (pool_faults n.version n.pools prefix at ms)
pool n prefix at ms =
    let known = pool_keys n.version (member_count ms) in
    both (pool_keys_faults n.version prefix ms) _ (both _ _ (keys prefix known ms) (unknown prefix known ms)) (both _ _ (once n.pools at prefix name_key ms) (its_members n prefix (array_at members ms)))

-- of a rule

source : (text file : Bool) (place : List ℕ) → AllFine (cond text (cond file (fault_at Range place ∷ []) []) (cond file [] (fault_at Range place ∷ [])))
source true true place = (refl, tt)
source true false place = tt
source false true place = tt
source false false place = (refl, tt)

rule : (n : Names) (prefix : List ℕ) (at : ℕ) (ms : Members) → AllFine (rules.rule_faults n.rules prefix at ms)
rule n prefix at ms =
    both _ _ (keys prefix rule_keys ms) (both _ _ (unknown prefix rule_keys ms) (both _ _ (once n.rules at prefix name_key ms) (source (has rule_text ms) (has rule_file ms) (key_place prefix rule_text.name))))

-- of a group

row_list : (kind : _) (prefix : List ℕ) (at : ℕ) (ds : Items) → AllFine (rows_from kind prefix at ds)
row_list kind prefix at no_items = tt
row_list kind prefix at (item d ds) =
    both (faults_of (item_place prefix rows.name at) (row_flaw kind d)) (rows_from kind prefix (at + 1) ds) (at_place (item_place prefix rows.name at) (row_flaw kind d) (judges _)) (row_list kind prefix (at + 1) ds)

its_rows : (kind : _) (prefix : List ℕ) (o : Option Items) → AllFine (rows_of kind prefix o)
its_rows kind prefix None = tt
its_rows kind prefix (Some ds) = row_list kind prefix 0 ds

group : (n : Names) (prefix : List ℕ) (at : ℕ) (ms : Members) → AllFine (group_faults n.groups prefix at ms)
group n prefix at ms = both _ _ (keys prefix group_keys ms) (both _ _ (unknown prefix group_keys ms) (both _ _ (once n.groups at prefix name_key ms) (its_rows (group_kind ms) prefix (array_at rows ms))))

-- of a section

module _ (n : Names) (s : Section) (tables : (prefix : List ℕ) (at : ℕ) (ms : Members) → AllFine (table_faults n s prefix at ms)) where
  an_item : (place : List ℕ) (at : ℕ) (o : Option Members) → AllFine (item_faults n s place at o)
  an_item place at None = (refl, tt)
  an_item place at (Some ms) = tables (prefix_of place) at ms

  item_list : (at : ℕ) (ds : Items) → AllFine (section_from n s at ds)
  item_list at no_items = tt
  item_list at (item d ds) =
      both (item_faults n s (item_place [] (section_key s).name at) at (as_table d)) (section_from n s (at + 1) ds) (an_item (item_place [] (section_key s).name at) at (as_table d)) (item_list (at + 1) ds)

  a_section : (o : Option Items) → AllFine (section_of n s o)
  a_section None = tt
  a_section (Some ds) = item_list 0 ds

-- of a document

document : (n : Names) (ms : Members) → AllFine (faults_with n ms)
document n ms =
    both _ _ (keys [] (top_keys n.version) ms) (both _ _ (unknown [] (top_keys n.version) ms) (both _ _ (a_section n Virtual (server n) (array_at servers ms)) (both _ _ (a_section n Pool (pool n) (array_at pools ms))
    (both _ _ (a_section n Rule (rule n) (array_at key.rules ms)) (a_section n Group (group n) (array_at groups ms))))))

pub document_was_read : (ms : Members) → IfSome (document_fault ms) (λ f. is_read_fault f.kind ≡ false)
unfolding document_fault
document_was_read ms = told (document_faults ms) None tt (document (names_in ms) ms)

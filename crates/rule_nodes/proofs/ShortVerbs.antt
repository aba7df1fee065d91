-- Commands on variables at once: what the change of a variable in its place gives, and what words of one part come to.
use Rattle.std.proofs.Common.{◌≡◌, refl, sym, ap, subst, ◌∙◌, ℕ, ◌^◌, ◌≤◌, ℤ, ◌+ℤ◌, pos, negsuc, List, [], ◌∷◌, ◌++◌, length}
use Rattle.std.proofs.Common.{Bool, true, false, ◌&&◌, Option, Some, None, Result, Ok, Err, arith, is_some}
use Rattle.std.specs.Prelude.{◌==◌, nat_lt, codes, if◌then◌else◌, unwrap_or}
use Rattle.std.specs.Bool.{OnTrue}
use Rattle.std.specs.Fmt.{signed_decimal}
use Rattle.std.proofs.lemmas.Bool.Decides.{nat_tests}
use Rattle.std.proofs.lemmas.List.{append-nil}
use Rattle.px_bytes.specs.FaultText.{out_of_range, static_set, too_long}
use Rattle.px_bytes.specs.Gives.{with_value as with_result}
use Rattle.px_bytes.specs.InPlace.{behind, sum_of, in_decimal as sum_decimal}
use Rattle.px_bytes.specs.Whole.{whole}
use Rattle.px_bytes.specs.WholeWord.{number_by, number_of}
use Rattle.px_bytes.specs.declared.fault.TclFault.{TclFault}
use Rattle.tcl_lists.specs.Write.{spelled, stands_bare}
use Rattle.tcl_vars.specs.Appended.{appended}
use Rattle.tcl_vars.specs.Changed.{ChangedVars, Change, by_bytes, by_sum}
use Rattle.tcl_vars.specs.Names.{Name, name_of}
use Rattle.tcl_vars.specs.Scopes.{Level, Scopes, is_static, value_at, value_in, vars_bytes, vars_limit, with_value}
use Rattle.tcl_var_commands.specs.Append.{with_behind}
use Rattle.tcl_var_commands.specs.Assigning.{assigned, assigned_in_room}
use Rattle.tcl_var_commands.specs.Changed.{Changed, fails, gives, then_by}
use Rattle.tcl_var_commands.specs.Incr.{in_decimal, incremented, sum_text}
use Rattle.tcl_var_commands.specs.Lappend.{elements_behind, lengthened}
use Rattle.tcl_var_commands.specs.Reading.{found, read_value, value_of}
use Rattle.rule_nodes.specs.AtOnce.{IsPlain, Leaves}
use Rattle.rule_nodes.specs.Short.{Shortly, purse, value_changed}

pub if_room : {A : Type 0} (limit bytes : ℕ) (a b : A) → bytes ≤ limit → (if nat_lt limit bytes then a else b) ≡ b
if_room limit bytes a b h =
    let e : nat_lt limit bytes ≡ false = grind (arith, nat_tests) in
    rw e refl

if_own : (read static : Bool) (a b : Changed) → static ≡ false → (if read && static then a else b) ≡ b
if_own true static a b e = rw e refl
if_own false static a b e = refl

pub if_not : {A : Type 0} (s : Bool) (a b : A) → s ≡ false → (if s then a else b) ≡ b
if_not s a b e = rw e refl

if_so : {A : Type 0} (s : Bool) (a b : A) → s ≡ true → (if s then a else b) ≡ a
if_so s a b e = rw e refl

abbrev pub plain_named : List ℕ → Name
plain_named name = record { name = name; index = None }

-- the variables behind a text that is put in the place of a value
pub record Put (name text : List ℕ) (vars new : Scopes) : Type 0 where
  pub own : is_static name ≡ false
  pub is : new ≡ with_value name None text vars
  pub room : vars_bytes new ≤ vars_limit

assigned_here : (level : Option Level) (name text : List ℕ) (vars new : Scopes) → Put name text vars new
    → assigned level (plain_named name) text vars ≡ gives text new
assigned_here level name text vars new put =
    let after : Scopes = with_value name None text vars in
    let few : vars_bytes after ≤ vars_limit = subst (λ (s : Scopes). vars_bytes s ≤ vars_limit) put.is put.room in
    if_own (is_some level) (is_static name) (fails static_set vars) (assigned_in_room (plain_named name) text vars) put.own
    ∙ if_room vars_limit (vars_bytes after) (fails too_long vars) (gives text after) few
    ∙ ap (gives text) (sym put.is)

-- what is assigned to a name that may be written with an index
pub assigns : (level : Option Level) (name text : List ℕ) (vars new : Scopes) (budget cost : ℕ) (named : Name → List ℕ) → IsPlain name
    → named (plain_named name) ≡ text → Put name text vars new
    → Leaves (value_changed (assigned level (name_of name) (named (name_of name)) vars) budget cost) (purse new budget cost)
assigns level name text vars new budget cost named plain e put =
    let to : Changed → Option Shortly = λ c. value_changed c budget cost in
    let one : to (assigned level (name_of name) (named (name_of name)) vars) ≡ to (assigned level (plain_named name) (named (plain_named name)) vars) =
    ap (λ (n : Name). to (assigned level n (named n) vars)) plain in
    let two : to (assigned level (plain_named name) (named (plain_named name)) vars) ≡ to (assigned level (plain_named name) text vars) =
    ap (λ (t : List ℕ). to (assigned level (plain_named name) t vars)) e in
    record { value = text; is_done = one ∙ two ∙ ap to (assigned_here level name text vars new put) }

-- a change in place that the code tells of
pub record InPlace (change : Change) (name : List ℕ) (vars new : Scopes) : Type 0 where
  pub changed : ChangedVars change name vars new
  pub own : is_static name ≡ false
  pub room : vars_bytes new ≤ vars_limit

puts : (change : Change) (name text : List ℕ) (vars new : Scopes) (i : InPlace change name vars new) → i.changed.text ≡ text → Put name text vars new
puts change name text vars new i e = record {
  own = i.own;
  is = i.changed.is ∙ ap (λ (t : List ℕ). with_value name None t vars) e;
  room = i.room;
}

pub sets : (level : Option Level) (change : Change) (name text : List ℕ) (vars new : Scopes) (budget cost : ℕ) → ((old : List ℕ) → change old ≡ Some text)
    → InPlace change name vars new → IsPlain name
    → Leaves (value_changed (assigned level (name_of name) text vars) budget cost) (purse new budget cost)
sets level change name text vars new budget cost is i plain =
    let becomes = i.changed.becomes in
    let there : change i.changed.old ≡ Some text = is i.changed.old in
    let e : i.changed.text ≡ text = cc in
    assigns level name text vars new budget cost (λ n. text) plain refl (puts change name text vars new i e)

text_behind : (old more : List ℕ) → old ++ (more ++ []) ≡ behind old [] more
text_behind [] more = append-nil more
text_behind (b ∷ bs) more = ap (λ (t : List ℕ). (b ∷ bs) ++ t) (append-nil more)

pub appends : (level : Option Level) (name more : List ℕ) (vars new : Scopes) (budget cost : ℕ) → InPlace (by_bytes [] more) name vars new → IsPlain name
    → Leaves (value_changed (with_behind level (name_of name) (more ∷ []) vars) budget cost) (purse new budget cost)
appends level name more vars new budget cost i plain =
    let becomes = i.changed.becomes in
    let old = i.changed.old in
    let e : appended vars name None (more ++ []) ≡ behind old [] more =
    ap (λ (x : Option (List ℕ)). unwrap_or x [] ++ (more ++ [])) i.changed.there ∙ text_behind old more in
    assigns level name (behind old [] more) vars new budget cost (λ n. appended vars n.name n.index (more ++ [])) plain e
    (puts (by_bytes [] more) name (behind old [] more) vars new i cc)

pub bare : (more : List ℕ) → (more ≡ [] → ⊥) → stands_bare more ≡ true → spelled more ≡ more
bare [] n e = absurd (n refl)
bare (b ∷ bs) n e = if_so (stands_bare (b ∷ bs)) (b ∷ bs) _ e

element_is : (old more : List ℕ) → spelled more ≡ more → elements_behind old (more ∷ []) ≡ behind old (32 ∷ []) more
element_is [] more e = e
element_is (b ∷ bs) more e = ap (λ (t : List ℕ). (b ∷ bs) ++ 32 ∷ t) e

pub lists : (level : Option Level) (name more : List ℕ) (vars new : Scopes) (budget cost : ℕ) → spelled more ≡ more
    → InPlace (by_bytes (32 ∷ []) more) name vars new → IsPlain name
    → Leaves (value_changed (lengthened level (name_of name) (more ∷ []) vars) budget cost) (purse new budget cost)
lists level name more vars new budget cost bare i plain =
    let becomes = i.changed.becomes in
    let old = i.changed.old in
    let e : elements_behind (unwrap_or (value_at vars name None) []) (more ∷ []) ≡ behind old (32 ∷ []) more =
    ap (λ (x : Option (List ℕ)). elements_behind (unwrap_or x []) (more ∷ [])) i.changed.there ∙ element_is old more bare in
    assigns level name (behind old (32 ∷ []) more) vars new budget cost (λ n. elements_behind (unwrap_or (value_at vars n.name n.index) []) (more ∷ [])) plain e
    (puts (by_bytes (32 ∷ []) more) name (behind old (32 ∷ []) more) vars new i cc)

value_here : (level : Option Level) (name : List ℕ) (vars : Scopes) (x : Option (List ℕ)) → is_static name ≡ false → value_at vars name None ≡ x
    → value_of level vars (plain_named name) ≡ x
value_here None name vars x own e = e
value_here (Some statics) name vars x own e = if_not (is_static name) (value_in statics name None) (value_at vars name None) own ∙ e

decimal_by : (b : Bool) (v text : List ℕ) → (if b then Some v else None) ≡ Some text → (if b then Ok v else Err out_of_range) ≡ Ok text
decimal_by true v text e = cc
decimal_by false v text e = cc

decimal_is : (n : ℤ) (text : List ℕ) → sum_decimal n ≡ Some text → in_decimal n ≡ Ok text
decimal_is (pos n) text e = decimal_by (nat_lt n (2 ^ 63)) (signed_decimal (pos n)) text e
decimal_is (negsuc n) text e = decimal_by (nat_lt n (2 ^ 63)) (signed_decimal (negsuc n)) text e

sum_is : (x : Option ℤ) (old more text : List ℕ) (n : ℤ) → number_of more ≡ Ok n → sum_of x n ≡ Some text
    → with_result (number_by x old) (λ m. with_result (number_of more) (λ k. in_decimal (m +ℤ k))) ≡ Ok text
sum_is None old more text n e h = cc
sum_is (Some m) old more text n e h =
    ap (λ (r : Result ℤ TclFault). with_result r (λ k. in_decimal (m +ℤ k))) e ∙ decimal_is (m +ℤ n) text h

pub increments : (level : Option Level) (name more : List ℕ) (n : ℤ) (vars new : Scopes) (budget cost : ℕ) → number_of more ≡ Ok n
    → InPlace (by_sum n) name vars new → IsPlain name
    → Leaves (value_changed (incremented level name more vars) budget cost) (purse new budget cost)
increments level name more n vars new budget cost number i plain =
    let old = i.changed.old in
    let text = i.changed.text in
    let to : Changed → Option Shortly = λ c. value_changed c budget cost in
    let sum : Name → Result (List ℕ) TclFault = λ m. with_result (read_value level vars name m) (λ o. sum_text o more) in
    let go : Name → Result (List ℕ) TclFault → Changed = λ m r. then_by r vars (λ value same. assigned level m value same) in
    let here : value_of level vars (plain_named name) ≡ Some old = value_here level name vars (Some old) i.own i.changed.there in
    let read : sum (plain_named name) ≡ sum_text old more = ap (λ (x : Option (List ℕ)). with_result (found name x) (λ o. sum_text o more)) here in
    let is : sum (plain_named name) ≡ Ok text = read ∙ sum_is (whole old) old more text n number i.changed.becomes in
    let one : go (name_of name) (sum (name_of name)) ≡ go (plain_named name) (sum (plain_named name)) = ap (λ (m : Name). go m (sum m)) plain in
    let two : go (plain_named name) (sum (plain_named name)) ≡ assigned level (plain_named name) text vars = ap (go (plain_named name)) is in
    record { value = text; is_done = ap to (one ∙ two ∙ assigned_here level name text vars new (puts (by_sum n) name text vars new i refl)) }

pub is_there : (between : List ℕ) (empty : Bool) → between ≡ codes " " → empty ≡ (length between == 0) → empty ≡ true → ⊥
is_there between empty e is was =
    let one : length between ≡ 1 = ap length e in
    let none : length between == 0 ≡ false = grind (arith, nat_tests) in
    cc

pub appends_on : (result : Bool) (name between more : List ℕ) (vars new : Scopes) → between ≡ []
    → OnTrue result (ChangedVars (by_bytes between more) name vars new) → OnTrue result (is_static name ≡ false) → vars_bytes new ≤ vars_limit
    → OnTrue result ((level : Option Level) (head : List ℕ) (budget cost : ℕ) → IsPlain name
    → Leaves (value_changed (with_behind level (name_of name) (more ∷ []) vars) budget cost) (purse new budget cost))
appends_on false name between more vars new e changed own room = tt
appends_on true name between more vars new e changed own room = λ level head budget cost plain.
    let here = rw e at changed in
    appends level name more vars new budget cost (record { changed = here; own = own; room = room }) plain

pub lists_on : (result : Bool) (name between more : List ℕ) (vars new : Scopes) → between ≡ codes " " → spelled more ≡ more
    → OnTrue result (ChangedVars (by_bytes between more) name vars new) → OnTrue result (is_static name ≡ false) → vars_bytes new ≤ vars_limit
    → OnTrue result ((level : Option Level) (head : List ℕ) (budget cost : ℕ) → IsPlain name
    → Leaves (value_changed (lengthened level (name_of name) (more ∷ []) vars) budget cost) (purse new budget cost))
lists_on false name between more vars new e bare changed own room = tt
lists_on true name between more vars new e bare changed own room = λ level head budget cost plain.
    let here = rw e at changed in
    lists level name more vars new budget cost bare (record { changed = here; own = own; room = room }) plain

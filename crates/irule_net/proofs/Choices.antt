-- What a command leaves to the next event.
use Rattle.std.proofs.Common.{◌≡◌, ℕ, Bool, true, false, List, [], ◌∷◌, refl, subst, Result, Ok, Err, Option, Some, None, length}
use Rattle.std.specs.Prelude.{ℤ, codes}
use Rattle.std.specs.Prelude.{nat_lt, not, ◌&&◌, ◌+◌, if◌then◌else◌}
use Rattle.std.specs.Str.{bytes_eq}
use Rattle.px_bytes.specs.Gives.{with_value}
use Rattle.px_bytes.specs.Host.{Faults, Gives, Sent}
use Rattle.px_bytes.specs.FaultText.{too_long}
use Rattle.px_bytes.specs.Limit.{limited}
use Rattle.px_bytes.specs.WholeWord.{number_of}
use Rattle.px_bytes.specs.declared.addr.Side.{Side}
use Rattle.px_bytes.specs.declared.fault.TclFault.{TclFault}
use Rattle.event_order.specs.Command.{command_row}
use Rattle.event_order.specs.declared.command.HostCommand.{HostCommand}
use Rattle.event_order.specs.declared.command.HostCommand.TheVariants as command
use Rattle.event_order.specs.declared.event.EventName.{EventName}
use Rattle.event_order.proofs.ByName.{command_by_name}
use Rattle.session_table.specs.Requests as table
use Rattle.irule_net.specs.Checks.{allows, command_of, shaped}
use Rattle.irule_net.specs.Classes.{TextOrFault, class_value}
use Rattle.irule_net.specs.Commands.{asked, asked_by, asked_of, is_http, net_step, stepped}
use Rattle.irule_net.specs.Forms.{arity_fits, class_form, clock_form, form_of, server_form, some_fits, without_http}
use Rattle.irule_net.specs.Laws.{ChoiceStays, leaves_more, left_by}
use Rattle.irule_net.specs.Requests.{Asked, after_asked, count_in, log_asked, members_asked, request_of, respond_asked}
use Rattle.irule_net.specs.State.{respond_limit, side_of}
use Rattle.irule_net.specs.Steps.{Step, done}
use Rattle.irule_net.specs.Targets.{node_target, pool_named, pool_target}
use Rattle.irule_net.specs.declared.form.Form.{Form}
use Rattle.irule_net.specs.declared.form.Form.TheVariants as form
use Rattle.irule_net.specs.declared.groups.Groups.{Groups}
use Rattle.irule_net.specs.declared.groups.PoolMembers.{PoolMembers}
use Rattle.irule_net.specs.declared.request.Request.{Request}
use Rattle.irule_net.specs.declared.request.Request.TheVariants as request
use Rattle.irule_net.specs.declared.state.NetState.{NetState}
use Rattle.irule_net.specs.declared.state.Target.{Target}

-- a request that leaves no more than a choice
abbrev is_passing : Request → Bool
is_passing (request.Collects n) = false
is_passing request.Releases = false
is_passing (request.Replaces offset count text) = false
is_passing request.Reselects = false
is_passing (request.ReselectsFrom target) = false
is_passing other = true

abbrev Passing : Asked → Type 0
Passing (Ok r) = is_passing r ≡ true
Passing (Err f) = Unit {0}

either_stays : (s : NetState) (b : Bool) (x y : Step) → ChoiceStays s (left_by x) → ChoiceStays s (left_by y)
    → ChoiceStays s (left_by (if b then x else y))
either_stays s true x y p q = p
either_stays s false x y p q = q

done_stays : (side : Side) (r : Request) (s : NetState) → is_passing r ≡ true
    → ChoiceStays s (left_by (done side r s))
done_stays side (request.Gives text) s h = refl
done_stays side (request.Tells tell) s h = refl
done_stays side (request.Asks call) s h = refl
done_stays side (request.Logs text) s h = refl
done_stays side (request.Chooses target) s h = refl
done_stays side (request.Ends ending) s h = refl
done_stays side (request.Collects n) s h = cc
done_stays side request.Releases s h = cc
done_stays side (request.Responds text) s h =
    either_stays s (nat_lt respond_limit (s.wishes.sent + length text)) (Faults too_long s []) (Gives []
    (record s {
      wishes = record s.wishes { sent = s.wishes.sent + length text };
    }) (Sent side text ∷ [])) refl refl
done_stays side (request.Replaces offset count text) s h = cc
done_stays side request.Reselects s h = cc
done_stays side (request.ReselectsFrom target) s h = cc
done_stays side request.Detaches s h = refl

stepped_stays : (event : EventName) (r : Asked) (s : NetState) → Passing r
    → ChoiceStays s (left_by (stepped event r s))
stepped_stays event (Ok r) s h = done_stays (side_of event) r s h
stepped_stays event (Err f) s h = refl

-- a form whose requests pass
abbrev is_passing_form : Form → Bool
is_passing_form form.Collect = false
is_passing_form form.Release = false
is_passing_form form.Replace = false
is_passing_form form.Reselect = false
is_passing_form form.ReselectPool = false
is_passing_form form.ReselectNode = false
is_passing_form other = true

log_passes : (words : List (List ℕ)) → Passing (log_asked words)
log_passes [] = tt
log_passes (text ∷ []) = refl
log_passes (facility ∷ (text ∷ [])) = refl
log_passes (facility ∷ (text ∷ (other ∷ words))) = tt

respond_passes : (words : List (List ℕ)) → Passing (respond_asked words)
respond_passes [] = tt
respond_passes (text ∷ []) = refl
respond_passes (text ∷ (other ∷ words)) = tt

short_passes : (x : TextOrFault) → Passing (with_value x (λ short. Ok (request.Gives short)))
short_passes (Ok text) = refl
short_passes (Err f) = tt

class_passes : (x : TextOrFault)
    → Passing (with_value x (λ text. with_value (limited text) (λ short. Ok (request.Gives short))))
class_passes (Ok text) = short_passes (limited text)
class_passes (Err f) = tt

asks_pass : {A : Type 0} (call : List (List ℕ)) (x : Result A TclFault)
    → Passing (with_value x (λ _. Ok (request.Asks call)))
asks_pass call (Ok a) = refl
asks_pass call (Err f) = tt

chooses_pass : (x : Result Target TclFault) → Passing (with_value x (λ target. Ok (request.Chooses target)))
chooses_pass (Ok target) = refl
chooses_pass (Err f) = tt

after_call : (word : List ℕ) (x : Result ℤ TclFault)
    → Passing (with_value x (λ number. with_value (count_in number)
    (λ _. Ok (request.Asks (codes "after" ∷ (word ∷ []))))))
after_call word (Ok n) = asks_pass (codes "after" ∷ (word ∷ [])) (count_in n)
after_call word (Err f) = tt

after_passes : (words : List (List ℕ)) → Passing (after_asked words)
after_passes [] = tt
after_passes (word ∷ []) = after_call word (number_of word)
after_passes (word ∷ (other ∷ words)) = tt

members_pass : (pools : List PoolMembers) (words : List (List ℕ)) → Passing (members_asked pools words)
members_pass pools [] = tt
members_pass pools (name ∷ []) = asks_pass (codes "active_members" ∷ (name ∷ [])) (pool_named pools name)
members_pass pools (name ∷ (other ∷ words)) = tt

request_passes : (groups : Groups) (port : ℕ) (f : Form) (words : List (List ℕ)) → is_passing_form f ≡ true
    → Passing (request_of groups port f words)
request_passes groups port form.Log words h = log_passes words
request_passes groups port form.Match words h = class_passes (class_value groups.classes form.Match words)
request_passes groups port form.Search words h = class_passes (class_value groups.classes form.Search words)
request_passes groups port form.Lookup words h = class_passes (class_value groups.classes form.Lookup words)
request_passes groups port form.Exists words h = class_passes (class_value groups.classes form.Exists words)
request_passes groups port form.Size words h = class_passes (class_value groups.classes form.Size words)
request_passes groups port form.Names words h = class_passes (class_value groups.classes form.Names words)
request_passes groups port form.Table words h = asks_pass (codes "table" ∷ words) (table.checked words)
request_passes groups port form.After words h = after_passes words
request_passes groups port form.ActiveMembers words h = members_pass groups.pools words
request_passes groups port form.Seconds words h = refl
request_passes groups port form.ClientAddr words h = refl
request_passes groups port form.ClientPort words h = refl
request_passes groups port form.ServerAddr words h = refl
request_passes groups port form.SelectedPool words h = refl
request_passes groups port form.SelectedAddr words h = refl
request_passes groups port form.SelectedPort words h = refl
request_passes groups port form.Pool words h = chooses_pass (pool_target groups.pools port words)
request_passes groups port form.Node words h = chooses_pass (node_target (codes "node") port words)
request_passes groups port form.Reject words h = refl
request_passes groups port form.Close words h = refl
request_passes groups port form.Collect words h = cc
request_passes groups port form.Release words h = cc
request_passes groups port form.Respond words h = respond_passes words
request_passes groups port form.Payload words h = refl
request_passes groups port form.PayloadLength words h = refl
request_passes groups port form.Replace words h = cc
request_passes groups port form.Reselect words h = cc
request_passes groups port form.ReselectPool words h = cc
request_passes groups port form.ReselectNode words h = cc
request_passes groups port form.Detach words h = refl

abbrev FormPasses : Option Form → Type 0
FormPasses None = Unit {0}
FormPasses (Some f) = is_passing_form f ≡ true

pick : (b : Bool) (x y : Option Form) → FormPasses x → FormPasses y → FormPasses (if b then x else y)
pick true x y p q = p
pick false x y p q = q

-- a form that is told by a word: this one, or what another test says
named : (b : Bool) (f : Form) (y : Option Form) → is_passing_form f ≡ true → FormPasses y
    → FormPasses (if b then Some f else y)
named b f y p q = pick b (Some f) y p q

class_form_passes : (words : List (List ℕ)) → FormPasses (class_form words)
class_form_passes [] = tt
class_form_passes (word ∷ words) =
    named (bytes_eq word (codes "match")) form.Match _ refl
    (named (bytes_eq word (codes "search")) form.Search _ refl
    (named (bytes_eq word (codes "lookup")) form.Lookup _ refl
    (named (bytes_eq word (codes "exists")) form.Exists _ refl
    (named (bytes_eq word (codes "size")) form.Size _ refl
    (named (bytes_eq word (codes "names")) form.Names None refl tt)))))

clock_form_passes : (words : List (List ℕ)) → FormPasses (clock_form words)
clock_form_passes [] = tt
clock_form_passes (word ∷ words) = named (bytes_eq word (codes "seconds")) form.Seconds None refl tt

server_form_passes : (words : List (List ℕ)) → FormPasses (server_form words)
server_form_passes [] = tt
server_form_passes (word ∷ words) =
    named (bytes_eq word (codes "pool")) form.SelectedPool _ refl
    (named (bytes_eq word (codes "addr")) form.SelectedAddr _ refl
    (named (bytes_eq word (codes "port")) form.SelectedPort None refl tt))

-- the commands that leave more
abbrev is_keeping : HostCommand → Bool
is_keeping command.TcpCollect = true
is_keeping command.TcpRelease = true
is_keeping command.TcpPayload = true
is_keeping command.LbReselect = true
is_keeping other = false

form_passes : (c : HostCommand) (words : List (List ℕ)) → is_keeping c ≡ false → FormPasses (form_of c words)
form_passes command.Log words h = refl
form_passes command.Class words h = class_form_passes words
form_passes command.Table words h = refl
form_passes command.After words h = refl
form_passes command.ActiveMembers words h = refl
form_passes command.Clock words h = clock_form_passes words
form_passes command.IpClientAddr words h = refl
form_passes command.TcpClientPort words h = refl
form_passes command.LbServer words h = server_form_passes words
form_passes command.Pool words h = refl
form_passes command.Node words h = refl
form_passes command.Reject words h = refl
form_passes command.Drop words h = refl
form_passes command.TcpClose words h = refl
form_passes command.TcpCollect words h = cc
form_passes command.TcpRelease words h = cc
form_passes command.TcpRespond words h = refl
form_passes command.TcpPayload words h = cc
form_passes command.IpServerAddr words h = refl
form_passes command.LbReselect words h = cc
form_passes command.LbDetach words h = refl
form_passes other words h = tt

shaped_passes : (groups : Groups) (port : ℕ) (words : List (List ℕ)) (b : Bool) (f : Form) (fault : TclFault)
    → is_passing_form f ≡ true
    → Passing (with_value (if b then Ok f else Err fault) (λ form. request_of groups port form words))
shaped_passes groups port words true f fault h = request_passes groups port f words h
shaped_passes groups port words false f fault h = tt

wrong_passes : (groups : Groups) (port : ℕ) (words : List (List ℕ)) (b : Bool) (x y : TclFault)
    → Passing (with_value (if b then Err x else Err y) (λ form. request_of groups port form words))
wrong_passes groups port words true x y = tt
wrong_passes groups port words false x y = tt

formed_passes : (groups : Groups) (port : ℕ) (words : List (List ℕ)) (c : HostCommand) (o : Option Form)
    (n : ℕ)
    → FormPasses o → Passing (with_value (shaped c o n) (λ form. request_of groups port form words))
formed_passes groups port words c None n h = wrong_passes groups port words (some_fits c n) _ _
formed_passes groups port words c (Some f) n h = shaped_passes groups port words (arity_fits f n) f _ h

checked_passes : (groups : Groups) (port : ℕ) (words : List (List ℕ)) (b : Bool) (c : HostCommand)
    (o : Option Form)
    (n : ℕ) (fault : TclFault) → FormPasses o
    → Passing (with_value (if b then shaped c o n else Err fault) (λ form. request_of groups port form words))
checked_passes groups port words true c o n fault h = formed_passes groups port words c o n h
checked_passes groups port words false c o n fault h = tt

command_passes : (groups : Groups) (event : EventName) (s : NetState) (c : HostCommand)
    (words : List (List ℕ))
    → is_keeping c ≡ false → Passing (asked_by groups event s c words)
command_passes groups event s c words h =
    checked_passes groups s.port words (allows c event && not (s.http && without_http c)) c
    (form_of c words) (length words) _
    (form_passes c words h)

named_keeping : (c : HostCommand) → leaves_more (command_row c).name ≡ false → is_keeping c ≡ false
named_keeping command.TcpCollect h = h
named_keeping command.TcpRelease h = h
named_keeping command.TcpPayload h = h
named_keeping command.LbReselect h = h
named_keeping other h = refl

name_passes : (groups : Groups) (event : EventName) (s : NetState) (name : List ℕ) (words : List (List ℕ))
    (o : Option HostCommand) → command_of name ≡ o → leaves_more name ≡ false
    → Passing (asked_of groups event s name words o)
name_passes groups event s name words None e h = tt
name_passes groups event s name words (Some c) e h =
    let is : name ≡ (command_row c).name = (command_by_name name c).0 e in
    command_passes groups event s c words (named_keeping c (subst (λ n. leaves_more n ≡ false) is h))

unless_http : (b : Bool) (fault : TclFault) (x : Asked) → Passing x → Passing (if b then Err fault else x)
unless_http true fault x h = tt
unless_http false fault x h = h

pub choice_stays : (groups : Groups) (event : EventName) (s : NetState) (name : List ℕ)
    (words : List (List ℕ))
    → leaves_more name ≡ false → ChoiceStays s (left_by (net_step groups event s (name ∷ words)))
choice_stays groups event s name words h =
    stepped_stays event (asked groups event s (name ∷ words)) s
    (unless_http (is_http name) _ (asked_of groups event s name words (command_of name))
    (name_passes groups event s name words (command_of name) refl h))

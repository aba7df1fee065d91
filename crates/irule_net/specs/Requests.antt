-- What the words of each form ask (iRules: the page of each command). The tests of a form come in
-- this order: options and fixed words, names, whole numbers, ranges; the port of a pool's member
-- comes before the member, and what a group's kind allows behind the group's name.
use Rattle.std.specs.Prelude.{ℕ, ℤ, pos, negsuc, List, [], ◌∷◌, codes, Result, Ok, Err}
use Rattle.px_bytes.specs.FaultText.{out_of_range, wrong_arity}
use Rattle.px_bytes.specs.Gives.{with_value}
use Rattle.px_bytes.specs.Limit.{limited}
use Rattle.px_bytes.specs.WholeWord.{number_of}
use Rattle.px_bytes.specs.declared.fault.TclFault.{TclFault}
use Rattle.session_table.specs.Requests as table
use Rattle.irule_net.specs.Classes.{class_value}
use Rattle.irule_net.specs.Targets.{node_target, pool_named, pool_target}
use Rattle.irule_net.specs.declared.form.Form.{Form}
use Rattle.irule_net.specs.declared.form.Form.TheVariants as form
use Rattle.irule_net.specs.declared.groups.Groups.{Groups}
use Rattle.irule_net.specs.declared.groups.NamedGroup.{NamedGroup}
use Rattle.irule_net.specs.declared.groups.PoolMembers.{PoolMembers}
use Rattle.irule_net.specs.declared.request.Request.{Request}
use Rattle.irule_net.specs.declared.request.Request.TheVariants as request
use Rattle.irule_net.specs.declared.request.Tell.TheVariants as tell
use Rattle.irule_net.specs.declared.state.Ending.TheVariants.{Rejects, Closes}
use Rattle.irule_net.specs.declared.state.Target.TheVariants.{PoolOf}

abbrev pub Asked : Type 0
Asked = Result Request TclFault

-- a number that isn't negative
abbrev pub count_in : ℤ → Result ℕ TclFault
count_in (pos n) = Ok n
count_in (negsuc n) = Err out_of_range

-- `log [FACILITY] TEXT`
abbrev pub log_asked : List (List ℕ) → Asked
log_asked (text ∷ []) = Ok (request.Logs text)
log_asked (facility ∷ (text ∷ [])) = Ok (request.Logs text)
log_asked words = Err (wrong_arity (codes "log"))

-- `class`, where its value isn't too long
abbrev pub class_asked : List NamedGroup → Form → List (List ℕ) → Asked
class_asked classes form words =
    with_value (class_value classes form words)
    (λ text. with_value (limited text) (λ short. Ok (request.Gives short)))

-- a shared call has the command's words
abbrev pub table_asked : List (List ℕ) → Asked
table_asked words =
    with_value (table.checked words) (λ _. Ok (request.Asks (codes "table" ∷ words)))

-- `after MS`
abbrev pub after_asked : List (List ℕ) → Asked
after_asked (word ∷ []) =
    with_value (number_of word) (λ number. with_value (count_in number)
    (λ _. Ok (request.Asks (codes "after" ∷ (word ∷ [])))))
after_asked words = Err (wrong_arity (codes "after"))

-- `active_members POOL`
abbrev pub members_asked : List PoolMembers → List (List ℕ) → Asked
members_asked pools (name ∷ []) =
    with_value (pool_named pools name)
    (λ _. Ok (request.Asks (codes "active_members" ∷ (name ∷ []))))
members_asked pools words = Err (wrong_arity (codes "active_members"))

abbrev pub pool_asked : List PoolMembers → ℕ → List (List ℕ) → Asked
pool_asked pools port words =
    with_value (pool_target pools port words) (λ target. Ok (request.Chooses target))

abbrev pub node_asked : ℕ → List (List ℕ) → Asked
node_asked port words =
    with_value (node_target (codes "node") port words) (λ target. Ok (request.Chooses target))

-- `TCP::collect N`
abbrev pub collect_asked : List (List ℕ) → Asked
collect_asked (word ∷ []) =
    with_value (number_of word) (λ number. with_value (count_in number)
    (λ count. Ok (request.Collects count)))
collect_asked words = Err (wrong_arity (codes "TCP::collect"))

-- `TCP::respond TEXT`
abbrev pub respond_asked : List (List ℕ) → Asked
respond_asked (text ∷ []) = Ok (request.Responds text)
respond_asked words = Err (wrong_arity (codes "TCP::respond"))

-- both are whole numbers before one is tested for its range
abbrev pub part_asked : List ℕ → List ℕ → List ℕ → Asked
part_asked first second text =
    with_value (number_of first) (λ n. with_value (number_of second)
    (λ m. with_value (count_in n) (λ offset. with_value (count_in m)
    (λ count. Ok (request.Replaces offset count text)))))

-- `TCP::payload replace OFFSET LENGTH TEXT`
abbrev pub replace_asked : List (List ℕ) → Asked
replace_asked (word ∷ (offset ∷ (count ∷ (text ∷ [])))) = part_asked offset count text
replace_asked words = Err (wrong_arity (codes "TCP::payload"))

-- `LB::reselect pool NAME`
abbrev pub reselect_pool_asked : List PoolMembers → List (List ℕ) → Asked
reselect_pool_asked pools (word ∷ (name ∷ [])) =
    with_value (pool_named pools name) (λ _. Ok (request.ReselectsFrom (PoolOf name)))
reselect_pool_asked pools words = Err (wrong_arity (codes "LB::reselect"))

-- `LB::reselect node ADDR [PORT]`
abbrev pub reselect_node_asked : ℕ → List (List ℕ) → Asked
reselect_node_asked port (word ∷ words) =
    with_value (node_target (codes "LB::reselect") port words)
    (λ target. Ok (request.ReselectsFrom target))
reselect_node_asked port words = Err (wrong_arity (codes "LB::reselect"))

-- what the words behind a command ask in this form, by the groups and pools of the configuration
-- and the virtual server's port
abbrev pub request_of : Groups → ℕ → Form → List (List ℕ) → Asked
request_of groups port form.Log words = log_asked words
request_of groups port form.Match words = class_asked groups.classes form.Match words
request_of groups port form.Search words = class_asked groups.classes form.Search words
request_of groups port form.Lookup words = class_asked groups.classes form.Lookup words
request_of groups port form.Exists words = class_asked groups.classes form.Exists words
request_of groups port form.Size words = class_asked groups.classes form.Size words
request_of groups port form.Names words = class_asked groups.classes form.Names words
request_of groups port form.Table words = table_asked words
request_of groups port form.After words = after_asked words
request_of groups port form.ActiveMembers words = members_asked groups.pools words
request_of groups port form.Seconds words =
    Ok (request.Asks (codes "clock" ∷ (codes "seconds" ∷ [])))
request_of groups port form.ClientAddr words = Ok (request.Tells tell.ClientAddr)
request_of groups port form.ClientPort words = Ok (request.Tells tell.ClientPort)
request_of groups port form.ServerAddr words = Ok (request.Tells tell.ServerAddr)
request_of groups port form.SelectedPool words = Ok (request.Tells tell.SelectedPool)
request_of groups port form.SelectedAddr words = Ok (request.Tells tell.ServerAddr)
request_of groups port form.SelectedPort words = Ok (request.Tells tell.SelectedPort)
request_of groups port form.Pool words = pool_asked groups.pools port words
request_of groups port form.Node words = node_asked port words
request_of groups port form.Reject words = Ok (request.Ends Rejects)
request_of groups port form.Close words = Ok (request.Ends Closes)
request_of groups port form.Collect words = collect_asked words
request_of groups port form.Release words = Ok request.Releases
request_of groups port form.Respond words = respond_asked words
request_of groups port form.Payload words = Ok (request.Tells tell.Held)
request_of groups port form.PayloadLength words = Ok (request.Tells tell.HeldLength)
request_of groups port form.Replace words = replace_asked words
request_of groups port form.Reselect words = Ok request.Reselects
request_of groups port form.ReselectPool words = reselect_pool_asked groups.pools words
request_of groups port form.ReselectNode words = reselect_node_asked port words
request_of groups port form.Detach words = Ok request.Detaches

-- The report of a past, in this project's own format.
use Rattle.std.specs.Prelude.{ℕ, zero, suc, ◌+◌, List, [], ◌∷◌, ◌++◌, take, map}
use Rattle.std.specs.Prelude.{Option, Some, None, if◌then◌else◌}
use Rattle.px_bytes.specs.declared.addr.Side.TheVariants.{Client, Server}
use Rattle.conn_trace.specs.Item.{client_output, server_output}
use Rattle.core_events.specs.Kinds.{kind_of}
use Rattle.record_model.specs.Past.{Past, heard, with_accepted, shared}
use Rattle.proxy_core.specs.Queries.{pending_on}
use Rattle.proxy_core.specs.Ready.{is_in}
use Rattle.proxy_core.specs.Refusals.{live_at}
use Rattle.proxy_core.specs.Scheduler.{State, pending}
use Rattle.proxy_core.specs.Servers.{servers_made, took_of}
use Rattle.record_model.specs.Setup.{init_notes}
use Rattle.run_config.specs.declared.config.Config.{Config}
use Rattle.proxy_core.specs.declared.core_state.Core.{Core}
use Rattle.proxy_core.specs.declared.live.Live.{Live}
use Rattle.proxy.specs.declared.taken.Taken.{Taken}
use Rattle.proxy.specs.Report.{client_text, server_text, open_text}
use Rattle.journal_text.specs.Notes.{note_lines}

-- the lines of the notes, the oldest first
abbrev pub past_text : Past → List ℕ
past_text [] = []
past_text (x ∷ past) = past_text past ++ note_lines x.group

-- with the notes of the start
abbrev pub notes_text : Config → Past → List ℕ
notes_text C past = note_lines (init_notes C) ++ past_text past

-- the accepted numbers, the oldest first
abbrev pub accepted : Past → List ℕ
accepted [] = []
accepted (x ∷ past) = with_accepted (kind_of x.event) (accepted past)

-- the bytes that the client of connection c took: so many as it took, of those that were sent
abbrev pub taken_bytes : Past → State → ℕ → List ℕ
taken_bytes past s c = take (heard c past).client.took (client_output (s.places c))

-- The bytes that the server connection of this number took, the first being 1: so many as it took,
-- of those that were sent to it. To one that was made behind the finish nothing was sent.
abbrev pub server_bytes : Past → State → ℕ → (number : ℕ) → List ℕ
server_bytes past s c k = take (took_of (heard c past).connects k) (server_output k (s.places c))

-- the numbers from 1 to n
abbrev pub numbers_to : ℕ → List ℕ
numbers_to zero = []
numbers_to (suc n) = numbers_to n ++ suc n ∷ []

-- those of each server connection of c, in their order
abbrev pub servers_bytes : Past → State → ℕ → List (List ℕ)
servers_bytes past s c = map (server_bytes past s c) (numbers_to (servers_made c past))

-- their lines, the first by this number
abbrev pub servers_text : ℕ → (number : ℕ) → List (List ℕ) → List ℕ
servers_text conn number [] = []
servers_text conn number (bytes ∷ more) =
    server_text conn number bytes ++ servers_text conn (number + 1) more

-- A connection's lines: what its client took, what each of its server connections took, and, where
-- it is live, what is pending to its client and to its server.
abbrev pub connection_text : Past → State → ℕ → List ℕ
connection_text past s c =
    client_text c (taken_bytes past s c)
    ++ (servers_text c 1 (servers_bytes past s c)
    ++ (if is_in (shared past).live c
    then open_text c (pending past s c Client) (pending past s c Server) else []))

abbrev pub connections_text : Past → State → List ℕ → List ℕ
connections_text past s [] = []
connections_text past s (c ∷ numbers) =
    connection_text past s c ++ connections_text past s numbers

-- the report of a past that leads to this state, with its last line
abbrev pub report_text : Config → Past → State → List ℕ → List ℕ
report_text C past s last =
    notes_text C past ++ (connections_text past s (accepted past) ++ last)

-- what the program keeps of the bytes that the sides of connections took
abbrev pub taken_by : Past → State → ℕ → Taken
taken_by past s c =
    record { conn = c; client = taken_bytes past s c; servers = servers_bytes past s c }

abbrev pub taken_of : Past → State → List ℕ → List Taken
taken_of past s numbers = map (taken_by past s) numbers

-- the same lines, as the program writes them from its core
abbrev pub open_if_live : ℕ → Option Live → List ℕ
open_if_live conn None = []
open_if_live conn (Some l) = open_text conn (pending_on Client l.conn) (pending_on Server l.conn)

abbrev pub conn_text : Core → Taken → List ℕ
conn_text core t =
    client_text t.conn t.client
    ++ (servers_text t.conn 1 t.servers ++ open_if_live t.conn (live_at core.live.items t.conn))

abbrev pub conns_text : Core → List Taken → List ℕ
conns_text core [] = []
conns_text core (t ∷ taken) = conn_text core t ++ conns_text core taken

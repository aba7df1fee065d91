-- Worked lines of a report, besides those of notes.
use Rattle.std.proofs.Common.{◌≡◌, [], ◌∷◌, refl}
use Rattle.std.specs.Prelude.{codes}
use Rattle.std.specs.Fmt.{digits}
use Rattle.journal_text.specs.declared.line_kind.LineKind.TheVariants.{NotEvent}
use Rattle.core_events.specs.declared.bad_event.BadEvent.TheVariants.{Full}
use Rattle.proxy.specs.Replay.{servers_text}
use Rattle.proxy.specs.Report.{client_text, server_text, open_text, end_text, text_fault, event_fault, config_fault}

client : client_text 1 (codes "hi 7") ≡ codes "> client 1 68692037\n"
unfolding digits
client = refl

client_without_bytes : client_text 1 [] ≡ codes "> client 1 -\n"
unfolding digits
client_without_bytes = refl

server : server_text 1 1 (codes "ab") ≡ codes "> server 1 1 6162\n"
unfolding digits
server = refl

servers : servers_text 1 1 (codes "ab" ∷ [] ∷ []) ≡ codes "> server 1 1 6162\n> server 1 2 -\n"
unfolding digits
servers = refl

live : open_text 1 4 0 ≡ codes "> open 1 4 0\n"
unfolding digits
live = refl

no_events : end_text 0 ≡ codes "> end 0\n"
unfolding digits
no_events = refl

not_event : text_fault 3 NotEvent ≡ codes "> fault line 3 text 3\n"
unfolding digits
not_event = refl

all_live : event_fault 3 Full ≡ codes "> fault line 3 event 7\n"
unfolding digits
all_live = refl

unknown_pool_field : config_fault 3 (codes "pool[0].unknown") ≡ codes "config fault 3 at pool[0].unknown\n"
unfolding digits
unknown_pool_field = refl

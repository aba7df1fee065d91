-- Where a connection stands, by what happened.
use Rattle.std.specs.Prelude.{ℕ, ◌==◌, ◌&&◌, Bool, false, List, [], ◌∷◌, Option, Some, find, is_none, option_map}
use Rattle.std.specs.Prelude.{if◌then◌else◌}
use Rattle.std.specs.List.{list_any}
use Rattle.core_events.specs.declared.note.Cause.{Cause}
use Rattle.px_bytes.specs.declared.addr.Addr.{Addr}
use Rattle.test_past.specs.declared.entry.ClientConn.{ClientConn}
use Rattle.test_past.specs.declared.entry.RunEntry.{RunEntry}
use Rattle.test_past.specs.declared.entry.RunEntry.TheVariants.{Asked, Finished, Over}

-- the connection of a client that came
abbrev pub conn_of : ℕ → List ClientConn → Option ℕ
conn_of client came = option_map (λ one. one.conn) (find (λ one. one.client == client) came)

-- the server that is asked last for a connection, behind an entry
abbrev pub asked_to : ℕ → RunEntry → Option Addr → Option Addr
asked_to conn (Asked c to) before = if c == conn then Some to else before
asked_to conn other before = before

abbrev pub asked_from : ℕ → Option Addr → List RunEntry → Option Addr
asked_from conn before [] = before
asked_from conn before (x ∷ xs) = asked_from conn (asked_to conn x before) xs

-- why it finishes: by its first finish
abbrev pub finish_in : ℕ → RunEntry → Option Cause → Option Cause
finish_in conn (Finished c cause) before = if (c == conn) && is_none before then Some cause else before
finish_in conn other before = before

abbrev pub finish_of : ℕ → Option Cause → List RunEntry → Option Cause
finish_of conn before [] = before
finish_of conn before (x ∷ xs) = finish_of conn (finish_in conn x before) xs

abbrev pub ends : ℕ → RunEntry → Bool
ends conn (Over c) = c == conn
ends conn other = false

abbrev pub is_over : ℕ → List RunEntry → Bool
is_over conn entries = list_any (ends conn) entries

-- Worked rows of HTTP, by computation, with the heads of every connection.
use Rattle.std.proofs.Common.{◌≡◌, refl, ℕ, List, [], ◌∷◌, ◌++◌, codes, true, false}
use Rattle.std.specs.Fmt.{digits}
use Rattle.std.specs.Str.{chars, is_utf8}
use Rattle.httparse.specs.Grammar.{is_token_byte, print_response, trim_ows}
use Rattle.memchr.specs.Find.{first_of, matches_from}
use Rattle.px_bytes.specs.declared.addr.Side.TheVariants.{Client, Server}
use Rattle.px_bytes.specs.declared.fault.HttpFault.TheVariants.{Framing, Method}
use Rattle.tcl_vars.specs.Scopes.{no_level}
use Rattle.tcl_trees.specs.Tree.{Tree, trees_of}
use Rattle.tcl_trees.specs.Tree as tree
use Rattle.tcl_trees.specs.declared.node.Verb.TheVariants as verb
use Rattle.rule_model.specs.Evaluator.{evaluate}
use Rattle.event_order.specs.declared.event.EventName.{EventName}
use Rattle.event_order.specs.declared.event.EventName.TheVariants.{HttpRequest, HttpRequestData}
use Rattle.http_answers.specs.Answers.{reason_of}
use Rattle.conn_trace.specs.Host.{commands}
use Rattle.conn_trace.specs.Http.{the_heads}
use Rattle.conn_trace.specs.Item.{Item, Opened, BeforeBodies, Moved, Read, Sent, Ran, Finished, Closed, Http as HttpReason, ToClient}
use Rattle.conn_trace.specs.Setup.{Handler, Setup}
use Rattle.conn_trace.specs.State.{ForBytes, TraceState, Waits, no_answers}
use Rattle.conn_trace.specs.Trace.{behind, next_item, trace, start}
use Rattle.conn_trace.proofs.Rows.{setup, stream, responds}

abbrev web : (EventName → List Handler) → Setup
web handlers = record (setup no_level [] handlers) { http = true; heads = the_heads }

abbrev from : (EventName → List Handler) → List ℕ → TraceState
from handlers bytes = start (web handlers) (stream bytes false) no_answers

-- what comes first of a client's bytes
abbrev items : ℕ → (EventName → List Handler) → List ℕ → List Item
items n handlers bytes = trace n (web handlers) (from handlers bytes)

abbrev plain : List ℕ → Tree
plain text = tree.word (trees_of (tree.plain text ∷ []))

abbrev does : Tree → Handler
does t = record (responds []) { body = tree.script (trees_of (t ∷ [])) }

-- `HTTP::respond 200 content ok`, `return`, `HTTP::collect 3`
abbrev answers : Handler
answers = does (tree.command verb.Named (trees_of (plain (codes "HTTP::respond") ∷ plain (codes "200") ∷ plain (codes "content") ∷ plain (codes "ok") ∷ [])))

abbrev returns : Handler
returns = does (tree.command verb.Return (trees_of (plain (codes "return") ∷ [])))

abbrev collects : Handler
collects = does (tree.command verb.Named (trees_of (plain (codes "HTTP::collect") ∷ plain (codes "3") ∷ [])))

abbrev answering : EventName → List Handler
answering HttpRequest = answers ∷ []
answering other = []

-- a request is read, answered, and the next one is waited for
served_row : items 9 answering (codes "GET / HTTP/1.1\r\nHost: a\r\n\r\n")
    ≡ Read Client 27 ∷ Opened BeforeBodies ∷ Sent ToClient (codes "HTTP/1.0 200 OK\r\nServer: BigIP\r\nConnection: Keep-Alive\r\nContent-Length: 2\r\n\r\nok") ∷ Ran HttpRequest 5
    ∷ Read Client 0 ∷ []
unfolding next_item evaluate commands first_of matches_from reason_of print_response digits is_token_byte trim_ows is_utf8 chars lib.Utf8.encode
served_row = refl

-- a client of 1.0 that doesn't ask to be kept
closed_row : items 9 answering (codes "GET / HTTP/1.0\r\n\r\nGET / HTTP/1.0\r\n\r\n")
    ≡ Read Client 18 ∷ Opened BeforeBodies ∷ Sent ToClient (codes "HTTP/1.0 200 OK\r\nServer: BigIP\r\nConnection: close\r\nContent-Length: 2\r\n\r\nok") ∷ Ran HttpRequest 5
    ∷ Read Client 0 ∷ Finished Closed ∷ []
unfolding next_item evaluate commands first_of matches_from reason_of print_response digits is_token_byte trim_ows is_utf8 chars lib.Utf8.encode
closed_row = refl

-- faults are answered, and end the connection
length_row : items 9 answering (codes "POST / HTTP/1.1\r\nHost: a\r\nContent-Length: 3\r\nTransfer-Encoding: chunked\r\n\r\n")
    ≡ Sent ToClient (codes "HTTP/1.0 400 Bad Request\r\nServer: BigIP\r\nConnection: close\r\nContent-Length: 0\r\n\r\n") ∷ Finished (HttpReason Framing) ∷ []
unfolding next_item first_of matches_from reason_of print_response digits is_token_byte trim_ows is_utf8 chars lib.Utf8.encode
length_row = refl

connect_row : items 9 answering (codes "CONNECT a:1 HTTP/1.1\r\nHost: a\r\n\r\n")
    ≡ Sent ToClient (codes "HTTP/1.0 501 Not Implemented\r\nServer: BigIP\r\nConnection: close\r\nContent-Length: 0\r\n\r\n") ∷ Finished (HttpReason Method) ∷ []
unfolding next_item first_of matches_from reason_of print_response digits is_token_byte trim_ows is_utf8 chars lib.Utf8.encode
connect_row = refl

-- a body that returns ends itself alone: the next one runs
abbrev returning : EventName → List Handler
returning HttpRequest = returns ∷ answers ∷ []
returning other = []

return_row : items 5 returning (codes "GET / HTTP/1.1\r\nHost: a\r\n\r\n")
    ≡ Read Client 27 ∷ Opened BeforeBodies ∷ Ran HttpRequest 2
    ∷ Sent ToClient (codes "HTTP/1.0 200 OK\r\nServer: BigIP\r\nConnection: Keep-Alive\r\nContent-Length: 2\r\n\r\nok") ∷ Ran HttpRequest 5 ∷ []
unfolding next_item evaluate commands first_of matches_from reason_of print_response digits is_token_byte trim_ows is_utf8 chars lib.Utf8.encode
return_row = refl

-- a collect waits until all came that it asked for, and then its event runs
abbrev collecting : EventName → List Handler
collecting HttpRequest = collects ∷ []
collecting HttpRequestData = answers ∷ []
collecting other = []

abbrev put : List ℕ
put = codes "PUT / HTTP/1.1\r\nHost: a\r\nContent-Length: 4\r\n\r\nab"

part_row : next_item (web collecting) (behind 9 (web collecting) (from collecting put)) ≡ Waits (ForBytes Client)
unfolding next_item evaluate commands first_of matches_from is_token_byte trim_ows is_utf8 chars lib.Utf8.encode
part_row = refl

pub collect_row : items 9 collecting (put ++ codes "c")
    ≡ Read Client 46 ∷ Opened BeforeBodies ∷ Ran HttpRequest 3 ∷ Read Client 1 ∷ Read Client 1 ∷ Read Client 1
    ∷ Opened BeforeBodies ∷ Sent ToClient (codes "HTTP/1.0 200 OK\r\nServer: BigIP\r\nConnection: Keep-Alive\r\nContent-Length: 2\r\n\r\nok") ∷ Ran HttpRequestData 5 ∷ []
unfolding next_item evaluate commands first_of matches_from reason_of print_response digits is_token_byte trim_ows is_utf8 chars lib.Utf8.encode
collect_row = refl

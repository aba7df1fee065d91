-- What a question asks, of what happened before it.
use Rattle.std.specs.Prelude.{ℕ, ◌==◌, ◌&&◌, Bool, true, false, not, List, Option, Some, None}
use Rattle.std.specs.List.{count_by}
use Rattle.core_events.specs.declared.note.Cause.{Cause}
use Rattle.core_events.specs.declared.note.Cause.TheVariants as cause
use Rattle.core_events.specs.declared.note.CutReason.{CutReason}
use Rattle.core_events.specs.declared.note.CutReason.TheVariants as reason
use Rattle.journal_text.specs.Notes.{fault_number, http_number}
use Rattle.pools.specs.Pools.{same_addr}
use Rattle.px_bytes.specs.declared.addr.Addr.{Addr}
use Rattle.px_bytes.specs.declared.addr.Side.TheVariants.{Client}
use Rattle.test_past.specs.Got.{got_by, is_wished}
use Rattle.test_past.specs.Lines.{is_nothing, next_line}
use Rattle.test_past.specs.Rows.{row_holds}
use Rattle.test_past.specs.Standing.{asked_from, conn_of, finish_of, is_over}
use Rattle.test_past.specs.declared.entry.ClientConn.{ClientConn}
use Rattle.test_past.specs.declared.entry.RunEntry.{RunEntry}
use Rattle.test_text.specs.declared.expectation.Expectation.{Expectation}
use Rattle.test_text.specs.declared.expectation.Expectation.TheVariants as expect
use Rattle.test_text.specs.declared.expectation.Wished.{Wished}
use Rattle.test_text.specs.declared.test_file.PlacedStep.{PlacedStep}

abbrev pub same_server : Option Addr → Option Addr → Bool
same_server None None = true
same_server (Some addr) (Some asked) = same_addr addr asked
same_server addr asked = false

abbrev pub is_server_of : Option ℕ → Option Addr → List RunEntry → Bool
is_server_of None addr entries = false
is_server_of (Some conn) addr entries = same_server addr (asked_from conn None entries)

-- this is the server that was asked last for a client; none, where none was
abbrev pub is_server : List ClientConn → ℕ → Option Addr → List RunEntry → Bool
is_server came client addr entries = is_server_of (conn_of client came) addr entries

abbrev pub same_reason : CutReason → CutReason → Bool
same_reason reason.ClientReset reason.ClientReset = true
same_reason reason.ServerReset reason.ServerReset = true
same_reason reason.Idle reason.Idle = true
same_reason a b = false

abbrev pub same_cause : Cause → Cause → Bool
same_cause cause.Closed cause.Closed = true
same_cause (cause.Tcl a) (cause.Tcl b) = fault_number a == fault_number b
same_cause (cause.Http a) (cause.Http b) = http_number a == http_number b
same_cause cause.Unselected cause.Unselected = true
same_cause cause.Rejected cause.Rejected = true
same_cause (cause.Cut a) (cause.Cut b) = same_reason a b
same_cause cause.Memory cause.Memory = true
same_cause a b = false

abbrev pub same_finish : Cause → Option Cause → Bool
same_finish cause None = false
same_finish cause (Some other) = same_cause cause other

abbrev pub finishes_of : Option ℕ → Cause → List RunEntry → Bool
finishes_of None cause entries = false
finishes_of (Some conn) cause entries = is_over conn entries && same_finish cause (finish_of conn None entries)

-- a client's connection is over, for this cause
abbrev pub finishes : List ClientConn → ℕ → Cause → List RunEntry → Bool
finishes came client cause entries = finishes_of (conn_of client came) cause entries

abbrev pub is_open_of : Option ℕ → List RunEntry → Bool
is_open_of None entries = false
is_open_of (Some conn) entries = not (is_over conn entries)

abbrev pub is_open : List ClientConn → ℕ → List RunEntry → Bool
is_open came client entries = is_open_of (conn_of client came) entries

-- a line is what is wished; nothing, where there is none
abbrev pub line_holds : Wished → Option (List ℕ) → Bool
line_holds what None = is_nothing what
line_holds what (Some line) = not (is_nothing what) && is_wished what line

-- What a question asks holds of what happened before it.
abbrev pub holds : (rows : ℕ) → List PlacedStep → List ClientConn → Expectation → List RunEntry → Bool
holds rows steps came (expect.Gets side client what) entries = is_wished what (got_by steps came side client entries)
holds rows steps came (expect.SomeGet count clients what) entries =
    count_by (λ client. is_wished what (got_by steps came Client client entries)) clients == count
holds rows steps came (expect.Server client addr) entries = is_server came client addr entries
holds rows steps came (expect.Over client cause) entries = finishes came client cause entries
holds rows steps came (expect.Open client) entries = is_open came client entries
holds rows steps came (expect.Log of what) entries = line_holds what (next_line steps came of entries)
holds rows steps came (expect.Row row) entries = row_holds rows row entries

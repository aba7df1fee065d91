-- One ask of an open probe: which call on the net it is, and what its answer makes of the probe.
use Rattle.std.specs.Prelude.{◌≡◌, ℕ, ◌+◌, ◌-◌, ◌≤◌, min, List, ◌++◌, drop, length}
use Rattle.std.specs.Prelude.{Bool, true, false, nat_le, nat_lt, Option, Some, None}
use Rattle.std.specs.Prelude.{if◌then◌else◌}
use Rattle.px_outside.specs.Net.{Call, Ask, Read, Write}
use Rattle.px_outside.specs.declared.answers.ConnectAnswer.{ConnectAnswer}
use Rattle.px_outside.specs.declared.answers.ConnectAnswer.TheVariants as connect
use Rattle.px_outside.specs.declared.answers.ReadAnswer.{ReadAnswer}
use Rattle.px_outside.specs.declared.answers.ReadAnswer.TheVariants as read
use Rattle.px_outside.specs.declared.answers.WriteAnswer.{WriteAnswer}
use Rattle.px_outside.specs.declared.answers.WriteAnswer.TheVariants as write
use Rattle.tcl_expr.specs.TextTests.{contains}
use Rattle.pool_monitor.specs.declared.monitor.HttpCheck.{HttpCheck}
use Rattle.pool_monitor.specs.declared.probe.OpenProbe.{OpenProbe}
use Rattle.pool_monitor.specs.declared.verdict.ProbeVerdict.{ProbeVerdict}
use Rattle.pool_monitor.specs.declared.verdict.ProbeVerdict.TheVariants.{Waits, Succeeded, Failed, Refused}

-- one call was made on the net
pub record Makes {S : Type 0} (did : S → Call → S → Type 0) (old new : S) (P : Call → Type 0)
    : Type 0 where
  pub call : Call
  pub made : did old call new
  pub holds : P call

-- ---- the answer to a connect

-- a connection is all that a probe by TCP asks for
abbrev pub tcp_verdict : ConnectAnswer → ProbeVerdict
tcp_verdict connect.Connected = Succeeded
tcp_verdict connect.Refused = Refused
tcp_verdict connect.NotYet = Waits

-- one by HTTP goes on
abbrev pub connect_verdict : ConnectAnswer → ProbeVerdict
connect_verdict connect.Connected = Waits
connect_verdict connect.Refused = Refused
connect_verdict connect.NotYet = Waits

abbrev pub is_connected : ConnectAnswer → Bool
is_connected connect.Connected = true
is_connected connect.Refused = false
is_connected connect.NotYet = false

abbrev pub connected_by : ConnectAnswer → OpenProbe → OpenProbe
connected_by answer p = record {
  link = p.link;
  connected = is_connected answer;
  sent = p.sent;
  heard = p.heard;
}

pub record AsksConnect (verdict : ConnectAnswer → ProbeVerdict) (p : OpenProbe) (call : Call)
    (p' : OpenProbe) (v : ProbeVerdict) : Type 0 where
  pub answer : ConnectAnswer
  pub call_is : call ≡ Ask p.link answer
  pub probe_is : p' ≡ connected_by answer p
  pub verdict_is : v ≡ verdict answer

-- ---- writes

abbrev pub taken : WriteAnswer → ℕ
taken (write.Took n) = n
taken write.NotYet = 0
taken write.Reset = 0

abbrev pub write_verdict : WriteAnswer → ProbeVerdict
write_verdict (write.Took n) = Waits
write_verdict write.NotYet = Waits
write_verdict write.Reset = Failed

abbrev pub wrote_by : WriteAnswer → OpenProbe → OpenProbe
wrote_by answer p = record {
  link = p.link;
  connected = p.connected;
  sent = p.sent + taken answer;
  heard = p.heard;
}

-- all that wasn't written is written
pub record HasWritten (send : List ℕ) (p : OpenProbe) (call : Call) (p' : OpenProbe) (v : ProbeVerdict)
    : Type 0 where
  pub answer : WriteAnswer
  pub call_is : call ≡ Write p.link (drop p.sent send) answer
  pub probe_is : p' ≡ wrote_by answer p
  pub verdict_is : v ≡ write_verdict answer

-- ---- reads

-- what is left to 65,536 bytes; one that has read so many has failed
abbrev pub room_left : ℕ → ℕ
room_left heard = 65536 - min heard 65535

abbrev pub hears : List ℕ → OpenProbe → OpenProbe
hears bytes p = record {
  link = p.link;
  connected = p.connected;
  sent = p.sent;
  heard = p.heard ++ bytes;
}

-- of all bytes that were read, it succeeds where they hold what it waits for
abbrev pub got_verdict : List ℕ → List ℕ → ProbeVerdict
got_verdict recv heard =
    if contains heard recv then Succeeded
    else (if nat_le 65536 (length heard) then Failed else Waits)

abbrev pub read_verdict : List ℕ → List ℕ → ReadAnswer → ProbeVerdict
read_verdict recv heard (read.Got n) = got_verdict recv heard
read_verdict recv heard read.NotYet = Waits
read_verdict recv heard read.End = Failed
read_verdict recv heard read.Reset = Failed

pub record HasRead (recv : List ℕ) (p : OpenProbe) (call : Call) (p' : OpenProbe) (v : ProbeVerdict)
    : Type 0 where
  pub answer : ReadAnswer
  pub bytes : List ℕ
  pub call_is : call ≡ Read p.link (room_left (length p.heard)) answer bytes
  pub probe_is : p' ≡ hears bytes p
  pub verdict_is : v ≡ read_verdict recv p'.heard answer

-- no more bytes than the room holds
abbrev pub IfGot : ReadAnswer → ℕ → Type 0
IfGot (read.Got n) room = n ≤ room
IfGot read.NotYet room = Unit {0}
IfGot read.End room = Unit {0}
IfGot read.Reset room = Unit {0}

-- ---- all

-- the answer to its connect while it isn't connected, else a write while not all is written, else a
-- read
abbrev pub AskedWhere : (connected sends : Bool) → HttpCheck → OpenProbe → Call → OpenProbe → ProbeVerdict
    → Type 0
AskedWhere false sends check p call p' v = AsksConnect connect_verdict p call p' v
AskedWhere true true check p call p' v = HasWritten check.send p call p' v
AskedWhere true false check p call p' v = HasRead check.recv p call p' v

abbrev pub AskedHttp : HttpCheck → OpenProbe → Call → OpenProbe → ProbeVerdict → Type 0
AskedHttp check p call p' v =
    AskedWhere p.connected (nat_lt p.sent (length check.send)) check p call p' v

abbrev pub Asked : Option HttpCheck → OpenProbe → Call → OpenProbe → ProbeVerdict → Type 0
Asked None p call p' v = AsksConnect tcp_verdict p call p' v
Asked (Some check) p call p' v = AskedHttp check p call p' v

-- What the words behind the first one stand for, by the first word; and what an event writes there.
use Rattle.std.specs.Prelude.{ℕ, Bool, true, false, List, [], ◌∷◌, codes}
use Rattle.std.specs.Fmt.{decimal}
use Rattle.px_bytes.specs.Address.{ip_text, addr_text}
use Rattle.px_bytes.specs.Hexadecimal.{hex_text}
use Rattle.px_bytes.specs.declared.addr.Addr.{Addr}
use Rattle.journal_text.specs.declared.verb.EventVerb.{EventVerb}
use Rattle.journal_text.specs.declared.verb.EventVerb.TheVariants as verb
use Rattle.core_events.specs.declared.event.Event.{Event}
use Rattle.core_events.specs.declared.event.Event.TheVariants as event

-- what a word stands for; a number has a greatest one
pub data Form : Type 0 where
  Number : ℕ → Form
  Hex : Form
  Name : Form
  Ip : Form
  Member : Form
  Health : Form

-- what was read of a word
pub data Field : Type 0 where
  Numbered : ℕ → Field
  Bytes : List ℕ → Field
  Named : List ℕ → Field
  From : ℕ → Field
  At : Addr → Field
  Up : Bool → Field

-- a connection's number has 32 bits, a port 16; a count of bytes and a moment go to 2 ^ 53
abbrev pub conn_form : Form
conn_form = Number 4294967295

abbrev pub port_form : Form
port_form = Number 65535

abbrev pub count_form : Form
count_form = Number 9007199254740992

-- the words behind the first one
abbrev pub forms : EventVerb → List Form
forms verb.Accept = conn_form ∷ Name ∷ Ip ∷ port_form ∷ []
forms verb.Client = conn_form ∷ Hex ∷ []
forms verb.Server = conn_form ∷ Hex ∷ []
forms verb.ClientTook = conn_form ∷ count_form ∷ []
forms verb.ServerTook = conn_form ∷ count_form ∷ []
forms verb.Tick = count_form ∷ []
forms verb.Turn = []
forms verb.Run = []
forms verb.Mark = Name ∷ Member ∷ Health ∷ []
forms one_connection = conn_form ∷ []

-- the first word of an event's line
abbrev pub verb_of : Event → EventVerb
verb_of (event.Accept conn vs from) = verb.Accept
verb_of (event.FromClient conn bytes) = verb.Client
verb_of (event.ClientEnd conn) = verb.ClientEnd
verb_of (event.ClientReset conn) = verb.ClientReset
verb_of (event.Connected conn) = verb.Connected
verb_of (event.Refused conn) = verb.Refused
verb_of (event.FromServer conn bytes) = verb.Server
verb_of (event.ServerEnd conn) = verb.ServerEnd
verb_of (event.ServerReset conn) = verb.ServerReset
verb_of (event.ClientTook conn n) = verb.ClientTook
verb_of (event.ServerTook conn n) = verb.ServerTook
verb_of (event.Tick moment) = verb.Tick
verb_of event.Turn = verb.Turn
verb_of event.Run = verb.Run
verb_of (event.Mark pool member up) = verb.Mark

-- what the further words of an event's line say
abbrev pub fields : Event → List Field
fields (event.Accept conn vs from) =
    Numbered conn ∷ Named vs ∷ From from.ip ∷ Numbered from.port ∷ []
fields (event.FromClient conn bytes) = Numbered conn ∷ Bytes bytes ∷ []
fields (event.ClientEnd conn) = Numbered conn ∷ []
fields (event.ClientReset conn) = Numbered conn ∷ []
fields (event.Connected conn) = Numbered conn ∷ []
fields (event.Refused conn) = Numbered conn ∷ []
fields (event.FromServer conn bytes) = Numbered conn ∷ Bytes bytes ∷ []
fields (event.ServerEnd conn) = Numbered conn ∷ []
fields (event.ServerReset conn) = Numbered conn ∷ []
fields (event.ClientTook conn n) = Numbered conn ∷ Numbered n ∷ []
fields (event.ServerTook conn n) = Numbered conn ∷ Numbered n ∷ []
fields (event.Tick moment) = Numbered moment ∷ []
fields event.Turn = []
fields event.Run = []
fields (event.Mark pool member up) = Named pool ∷ At member ∷ Up up ∷ []

abbrev pub health_text : Bool → List ℕ
health_text true = codes "up"
health_text false = codes "down"

-- how it is written
abbrev pub field_text : Field → List ℕ
field_text (Numbered n) = decimal n
field_text (Bytes bytes) = hex_text bytes
field_text (Named name) = name
field_text (From ip) = ip_text ip
field_text (At addr) = addr_text addr
field_text (Up up) = health_text up

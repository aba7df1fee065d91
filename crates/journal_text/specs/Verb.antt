-- The first words of the lines of a schedule, this project's own.
use Rattle.std.specs.Prelude.{ℕ, List, [], ◌∷◌, codes}
use Rattle.journal_text.specs.declared.verb.EventVerb.{EventVerb}
use Rattle.journal_text.specs.declared.verb.EventVerb.TheVariants.{Accept, Client, ClientEnd}
use Rattle.journal_text.specs.declared.verb.EventVerb.TheVariants.{ClientReset}
use Rattle.journal_text.specs.declared.verb.EventVerb.TheVariants.{Connected, Refused, Server, ServerEnd}
use Rattle.journal_text.specs.declared.verb.EventVerb.TheVariants.{ServerReset, ClientTook, ServerTook}
use Rattle.journal_text.specs.declared.verb.EventVerb.TheVariants.{Tick, Turn, Run, Mark}

abbrev pub verb_text : EventVerb → List ℕ
verb_text Accept = codes "accept"
verb_text Client = codes "client"
verb_text ClientEnd = codes "client-end"
verb_text ClientReset = codes "client-reset"
verb_text Connected = codes "connected"
verb_text Refused = codes "refused"
verb_text Server = codes "server"
verb_text ServerEnd = codes "server-end"
verb_text ServerReset = codes "server-reset"
verb_text ClientTook = codes "client-took"
verb_text ServerTook = codes "server-took"
verb_text Tick = codes "tick"
verb_text Turn = codes "turn"
verb_text Run = codes "run"
verb_text Mark = codes "mark"

abbrev pub every_verb : List EventVerb
every_verb =
    Accept ∷ Client ∷ ClientEnd ∷ ClientReset ∷ Connected ∷ Refused ∷ Server ∷ ServerEnd
    ∷ ServerReset ∷ ClientTook ∷ ServerTook ∷ Tick ∷ Turn ∷ Run ∷ Mark ∷ []

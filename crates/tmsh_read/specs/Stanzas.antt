-- What may stand next in a text, where a token writes nothing into the table:
--
--     sys limits { .. }
--     ltm virtual NAME { .. }
--     ltm pool NAME { .. }
--     ltm rule NAME {TEXT}
--     ltm data-group internal NAME { .. }
use Rattle.std.specs.Prelude.{ℕ, List, codes, Option, Some, None, if◌then◌else◌}
use Rattle.std.specs.Str.{bytes_eq}
use Rattle.tmsh_read.specs.declared.next.Next.{Next}
use Rattle.tmsh_read.specs.declared.next.Next.TheVariants as next
use Rattle.tmsh_read.specs.declared.section.Block.TheVariants as block
use Rattle.tmsh_read.specs.declared.section.Section.{Section}
use Rattle.tmsh_read.specs.declared.section.Section.TheVariants.{Server, Pool, Rule, Group}
use Rattle.tmsh_read.specs.declared.token.Token.{Token}
use Rattle.tmsh_read.specs.declared.token.Token.TheVariants.{Open, Close, Run, Quoted, Braced, End, Broken}

abbrev pub after_name : Section → Next
after_name Server = next.Opens block.Server
after_name Pool = next.Opens block.Pool
after_name Rule = next.Text
after_name Group = next.Opens block.Group

abbrev pub limits_word : List ℕ → Option Next
limits_word w = if bytes_eq w (codes "limits") then Some (next.Opens block.Limits) else None

abbrev pub section_word : List ℕ → Option Next
section_word w =
    if bytes_eq w (codes "virtual") then Some (next.Name Server)
    else (if bytes_eq w (codes "pool") then Some (next.Name Pool)
    else (if bytes_eq w (codes "rule") then Some (next.Name Rule)
    else (if bytes_eq w (codes "data-group") then Some next.Internal else None)))

abbrev pub internal_word : List ℕ → Option Next
internal_word w = if bytes_eq w (codes "internal") then Some (next.Name Group) else None

abbrev pub http_word : List ℕ → Option Next
http_word w = if bytes_eq w (codes "http") then Some next.HttpEnd else None

abbrev pub after_word : Next → List ℕ → Option Next
after_word next.Limits w = limits_word w
after_word next.Section w = section_word w
after_word next.Internal w = internal_word w
after_word next.Http w = http_word w
after_word _ w = None

abbrev pub after_open : Next → Option Next
after_open (next.Opens b) = Some (next.Items b)
after_open _ = None

-- none where the token may not stand here
abbrev pub next_after : Next → Token → Option Next
next_after n (Run w) = after_word n w
next_after n Open = after_open n
next_after n _ = None

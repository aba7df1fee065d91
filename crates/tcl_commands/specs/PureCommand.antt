-- The commands that only make a text of texts: Tcl 8.4, string(n), list(n), lindex(n), llength(n),
-- lrange(n), lsearch(n), lsort(n), concat(n), split(n), join(n), format(n); the others are those of
-- iRules.
use Rattle.std.specs.Prelude.{ℕ, List, [], ◌∷◌, codes, find, Option, Some}
use Rattle.std.specs.Prelude.{None, Result, Err}
use Rattle.std.specs.Str.{bytes_eq}
use Rattle.px_bytes.specs.FaultText.{no_command}
use Rattle.px_bytes.specs.Gives.{with_value}
use Rattle.px_bytes.specs.Limit.{limited}
use Rattle.px_bytes.specs.declared.fault.TclFault.{TclFault}
use Rattle.tcl_encodings.specs.Addresses.{ip_addr_value}
use Rattle.tcl_encodings.specs.Base64Text.{b64encode_value, b64decode_value}
use Rattle.tcl_encodings.specs.Digest.{sha256_value}
use Rattle.tcl_encodings.specs.Percent.{uri_encode_value, uri_decode_value}
use Rattle.tcl_list_commands.specs.Counting.{llength_value}
use Rattle.tcl_list_commands.specs.Joining.{concat_value, join_value}
use Rattle.tcl_list_commands.specs.Making.{list_value}
use Rattle.tcl_list_commands.specs.Picking.{lindex_value, lrange_value}
use Rattle.tcl_list_commands.specs.Searching.{lsearch_value}
use Rattle.tcl_list_commands.specs.Sorting.{lsort_value}
use Rattle.tcl_list_commands.specs.Splitting.{split_value}
use Rattle.tcl_strings.specs.Fields.{getfield_value}
use Rattle.tcl_strings.specs.FormatCommand.{format_value}
use Rattle.tcl_strings.specs.StringCommand.{string_value}
use Rattle.tcl_commands.specs.declared.pure_command.PureCommand.{PureCommand}
use Rattle.tcl_commands.specs.declared.pure_command.PureCommand.TheVariants.{String}
use Rattle.tcl_commands.specs.declared.pure_command.PureCommand.TheVariants.{List as Listing}
use Rattle.tcl_commands.specs.declared.pure_command.PureCommand.TheVariants.{Lindex, Llength}
use Rattle.tcl_commands.specs.declared.pure_command.PureCommand.TheVariants.{Lrange, Lsearch, Lsort}
use Rattle.tcl_commands.specs.declared.pure_command.PureCommand.TheVariants.{Concat, Split, Join}
use Rattle.tcl_commands.specs.declared.pure_command.PureCommand.TheVariants.{Format, Getfield}
use Rattle.tcl_commands.specs.declared.pure_command.PureCommand.TheVariants.{B64encode, B64decode}
use Rattle.tcl_commands.specs.declared.pure_command.PureCommand.TheVariants.{Sha256, UriEncode}
use Rattle.tcl_commands.specs.declared.pure_command.PureCommand.TheVariants.{UriDecode, IpAddr}

abbrev pub name_of : PureCommand → List ℕ
name_of String = codes "string"
name_of Listing = codes "list"
name_of Lindex = codes "lindex"
name_of Llength = codes "llength"
name_of Lrange = codes "lrange"
name_of Lsearch = codes "lsearch"
name_of Lsort = codes "lsort"
name_of Concat = codes "concat"
name_of Split = codes "split"
name_of Join = codes "join"
name_of Format = codes "format"
name_of Getfield = codes "getfield"
name_of B64encode = codes "b64encode"
name_of B64decode = codes "b64decode"
name_of Sha256 = codes "sha256"
name_of UriEncode = codes "URI::encode"
name_of UriDecode = codes "URI::decode"
name_of IpAddr = codes "IP::addr"

abbrev pub every_pure : List PureCommand
every_pure =
    String ∷ Listing ∷ Lindex ∷ Llength ∷ Lrange ∷ Lsearch ∷ Lsort ∷ Concat ∷ Split ∷ Join ∷
    Format ∷ Getfield ∷ B64encode ∷ B64decode ∷ Sha256 ∷ UriEncode ∷ UriDecode ∷ IpAddr ∷ []

-- the pure command of this name
abbrev pub pure_of : List ℕ → Option PureCommand
pure_of name = find (λ c. bytes_eq (name_of c) name) every_pure

-- what a pure command gives with the words after its name
abbrev pub command_value : PureCommand → List (List ℕ) → Result (List ℕ) TclFault
command_value String words = string_value words
command_value Listing words = list_value words
command_value Lindex words = lindex_value words
command_value Llength words = llength_value words
command_value Lrange words = lrange_value words
command_value Lsearch words = lsearch_value words
command_value Lsort words = lsort_value words
command_value Concat words = concat_value words
command_value Split words = split_value words
command_value Join words = join_value words
command_value Format words = format_value words
command_value Getfield words = getfield_value words
command_value B64encode words = b64encode_value words
command_value B64decode words = b64decode_value words
command_value Sha256 words = sha256_value words
command_value UriEncode words = uri_encode_value words
command_value UriDecode words = uri_decode_value words
command_value IpAddr words = ip_addr_value words

-- a value that is too long is a fault, whatever the command
abbrev pub value_by : Option PureCommand → List ℕ → List (List ℕ) → Result (List ℕ) TclFault
value_by (Some command) name words = with_value (command_value command words) limited
value_by None name words = Err (no_command name)

-- what the words of a command give, the first being its name
abbrev pub pure_value : List (List ℕ) → Result (List ℕ) TclFault
pure_value [] = Err (no_command [])
pure_value (name ∷ words) = value_by (pure_of name) name words

-- What octets are read as, and in which order they are refused.
use Rattle.std.specs.Prelude.{◌≡◌, ℕ, ◌+◌, ◌-◌, ◌*◌, ◌/◌, ◌%◌, ◌≤◌, Bool, true, cond, not, ◌&&◌, ◌||◌, List, [], ◌∷◌, length, take, drop, None, Option, ◌==◌, nat_le, nat_lt, slice_index}
use Rattle.icp.specs.declared.contents.Change.{Change}
use Rattle.icp.specs.declared.contents.Header.{Header}
use Rattle.opening.specs.declared.opener.Identity.{Identity}
use Rattle.opening.specs.declared.opener.Opener.{Opener}
use Rattle.opening.specs.declared.opener.Call.{Call}
use Rattle.opening.specs.declared.opener.Call.TheVariants.{Update, Answer, Query, Reply}
use Rattle.icp.specs.declared.refusals.MessageFault.{MessageFault}
use Rattle.icp.specs.declared.refusals.MessageFault.TheVariants as fault
use Rattle.std.specs.Str.{bytes_eq}
use Rattle.icp.specs.Names.{nameable}
use Rattle.icp.specs.Numbers.{number2, number4}
use Rattle.icp.specs.Opcodes.{opcode_number}
use Rattle.icp.specs.Faults.{refuse}
use Rattle.icp.specs.Contents.{Content, changes, whole, acknowledgement, call, query, hit, miss}

-- the opener in plain numbers
abbrev pub identity : Opener → Identity
identity o = record { number = o.number; count = o.count; positions = o.size.positions }

-- the fields of the header

abbrev pub opcode_in : List ℕ → ℕ
opcode_in xs = slice_index xs 0

abbrev pub version_in : List ℕ → ℕ
version_in xs = slice_index xs 1

abbrev pub length_in : List ℕ → ℕ
length_in xs = number2 xs 2

abbrev pub request_in : List ℕ → ℕ
request_in xs = number4 xs 4

abbrev pub options_in : List ℕ → ℕ
options_in xs = number4 xs 8

abbrev pub data_in : List ℕ → ℕ
data_in xs = number4 xs 12

abbrev pub sender_in : List ℕ → ℕ
sender_in xs = number4 xs 16

-- the fewest octets of a message
abbrev pub least : Call → ℕ
least Update = 32
least Answer = 20
least Query = 24
least Reply = 20

-- the length is above 16,384, too small, or not what its field says
abbrev pub wrong_length : Call → List ℕ → Bool
wrong_length kind xs = (nat_lt 16384 (length xs) || nat_lt (length xs) (least kind)) || not (length_in xs == length xs)

-- the version is not 2, an option is set, or opcodes 1 to 3 have option data
abbrev pub wrong_header : List ℕ → Bool
wrong_header xs =
    (not (version_in xs == 2) || not (options_in xs == 0))
    || ((nat_le 1 (opcode_in xs) && nat_le (opcode_in xs) 3) && not (data_in xs == 0))

-- the opcodes that a call opens
abbrev pub opens : Call → ℕ → Bool
opens Update op = op == 20 || op == 30
opens Answer op = op == 31 || op == 32
opens Query op = op == 1
opens Reply op = op == 2 || op == 3

-- a house that is the opener itself or outside the federation
abbrev pub stranger : Opener → ℕ → Bool
stranger o house = (nat_lt house 1 || nat_lt o.count house) || house == o.number

-- the message is not from a sibling, answers another house, or is asked for another house
abbrev pub wrong_sender : Call → Opener → List ℕ → Bool
wrong_sender Update o xs = stranger o (sender_in xs)
wrong_sender Answer o xs = stranger o (sender_in xs) || not (data_in xs == o.number)
wrong_sender Query o xs = stranger o (sender_in xs) || not (number4 xs 20 == sender_in xs)
wrong_sender Reply o xs = stranger o (sender_in xs)

-- the checks that each call makes first
abbrev pub header_refusal : Call → Opener → List ℕ → Option MessageFault → Option MessageFault
header_refusal kind o xs rest =
    refuse (wrong_length kind xs) (fault.Length o.number)
    (refuse (wrong_header xs) (fault.Header o.number)
    (refuse (not (opens kind (opcode_in xs))) (fault.Opcode o.number)
    (refuse (wrong_sender kind o xs) (fault.Sender o.number (request_in xs)) rest)))

-- the header of a message that passes these checks
pub record Headed (kind : Call) (o : Opener) (xs : List ℕ) (h : Header) : Type 0 where
  pub passes : (rest : Option MessageFault) → header_refusal kind o xs rest ≡ rest
  pub long : least kind ≤ length xs
  pub short : length xs ≤ 16384
  pub opened : opens kind (opcode_in xs) ≡ true
  pub opcode_is : opcode_number h.opcode ≡ opcode_in xs
  pub request_is : h.request ≡ request_in xs
  pub data_is : h.option ≡ data_in xs
  pub sender_is : h.sender ≡ sender_in xs

-- the fields of an update's filter

abbrev pub functions_in : List ℕ → ℕ
functions_in xs = number2 xs 20

abbrev pub bits_in : List ℕ → ℕ
bits_in xs = number2 xs 22

abbrev pub positions_in : List ℕ → ℕ
positions_in xs = number4 xs 24

abbrev pub count_in : List ℕ → ℕ
count_in xs = number4 xs 28

-- an entry of a change list: the top bit is the new value, the others the position
abbrev pub change : ℕ → Change
change n = record { position = n % 2147483648; value = nat_le 2147483648 n }

-- the entries of a change list, four octets each
abbrev pub entries_in : List ℕ → List Change
entries_in [] = []
entries_in (a ∷ []) = []
entries_in (a ∷ b ∷ []) = []
entries_in (a ∷ b ∷ c ∷ []) = []
entries_in (a ∷ b ∷ c ∷ d ∷ xs) = change (number4 (a ∷ b ∷ c ∷ d ∷ []) 0) ∷ entries_in xs

-- each position is below m, at least `low`, and above the one before it
abbrev pub rises : ℕ → ℕ → List Change → Bool
rises m low [] = true
rises m low (e ∷ es) = (nat_le low e.position && nat_lt e.position m) && rises m (e.position + 1) es

-- another number of functions, bits or positions
abbrev pub wrong_filter : Opener → List ℕ → Bool
wrong_filter o xs = (not (functions_in xs == 4) || not (bits_in xs == 32)) || not (positions_in xs == o.size.positions)

-- a body of another length: c entries, of which there are few, or the whole summary with no entry
abbrev pub wrong_body : Opener → List ℕ → Bool
wrong_body o xs =
    cond (opcode_in xs == 20)
    (not (length xs == 32 + 4 * count_in xs) || not (nat_lt (4 * count_in xs) (o.size.positions / 8)))
    (not (length xs == 32 + o.size.positions / 8) || not (count_in xs == 0))

-- no version, or another earlier version than the one before it, for a whole 0
abbrev pub wrong_numbers : ℕ → ℕ → ℕ → Bool
wrong_numbers op version earlier = version == 0 || not (earlier == cond (op == 20) (version - 1) 0)

abbrev pub wrong_version : List ℕ → Bool
wrong_version xs = wrong_numbers (opcode_in xs) (request_in xs) (data_in xs)

-- positions of a change list that are too large or do not rise
abbrev pub wrong_entries : Opener → List ℕ → Bool
wrong_entries o xs = opcode_in xs == 20 && not (rises o.size.positions 0 (entries_in (drop 32 xs)))

-- the octets before the last one
abbrev pub all_but_last : List ℕ → List ℕ
all_but_last xs = take (length xs - 1) xs

-- the zero octet is missing or early, or the name is bad
abbrev pub wrong_text : List ℕ → Bool
wrong_text body = (length body == 0 || not (slice_index body (length body - 1) == 0)) || not (nameable (all_but_last body))

-- a reply's number and name are not those of the query
abbrev pub other_query : ℕ → List ℕ → ℕ → List ℕ → Bool
other_query request name asked about = not (request == asked) || not (bytes_eq name about)

-- Why octets are refused, or none.

-- of an update whose header is right
abbrev pub body_refusal : Opener → List ℕ → Option MessageFault
body_refusal o xs =
    refuse (wrong_filter o xs) (fault.Filter o.number (request_in xs))
    (refuse (wrong_body o xs) (fault.Body o.number (request_in xs))
    (refuse (wrong_version xs) (fault.Version o.number (request_in xs))
    (refuse (wrong_entries o xs) (fault.Position o.number (request_in xs)) None)))

abbrev pub update_refusal : Opener → List ℕ → Option MessageFault
update_refusal o xs = header_refusal Update o xs (body_refusal o xs)

abbrev pub answer_refusal : Opener → List ℕ → Option MessageFault
answer_refusal o xs = header_refusal Answer o xs (refuse (not (length xs == 20)) (fault.Body o.number (request_in xs)) None)

abbrev pub query_refusal : Opener → List ℕ → Option MessageFault
query_refusal o xs = header_refusal Query o xs (refuse (wrong_text (drop 24 xs)) (fault.Name o.number) None)

-- the reply to a query of this number and name
abbrev pub reply_refusal : Opener → ℕ → List ℕ → List ℕ → Option MessageFault
reply_refusal o request name xs =
    header_refusal Reply o xs
    (refuse (wrong_text (drop 20 xs)) (fault.Name o.number)
    (refuse (other_query (request_in xs) (all_but_last (drop 20 xs)) request name) (fault.Reply o.number) None))

-- What octets say that are not refused.

abbrev pub update_in : List ℕ → Content
update_in xs =
    cond (opcode_in xs == 20)
    (changes (sender_in xs) (request_in xs) (entries_in (drop 32 xs)))
    (whole (sender_in xs) (request_in xs) (drop 32 xs))

abbrev pub answer_in : List ℕ → Content
answer_in xs =
    cond (opcode_in xs == 31)
    (acknowledgement (sender_in xs) (request_in xs) (data_in xs))
    (call (sender_in xs) (request_in xs) (data_in xs))

abbrev pub query_in : List ℕ → Content
query_in xs = query (sender_in xs) (request_in xs) (all_but_last (drop 24 xs))

abbrev pub reply_in : List ℕ → Content
reply_in xs =
    cond (opcode_in xs == 2)
    (hit (sender_in xs) (request_in xs) (all_but_last (drop 20 xs)))
    (miss (sender_in xs) (request_in xs) (all_but_last (drop 20 xs)))

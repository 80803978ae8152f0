-- What messages say, and the one way in which each is written.
use Rattle.std.specs.Prelude.{ℕ, ◌+◌, ◌-◌, cond, List, [], ◌∷◌, ◌++◌, length}
use Rattle.std.specs.List.{flat_map}
use Rattle.icp.specs.declared.contents.Change.{Change}
use Rattle.icp.specs.Numbers.{octets2, octets4}

-- what a message says; its sender is the number of a house
pub data Content : Type 0 where
  -- a version of the sender's summary, by what changed since the version before
  changes : (sender version : ℕ) (entries : List Change) → Content
  -- a version of the sender's summary, by all its octets
  whole : (sender version : ℕ) (summary : List ℕ) → Content
  -- the sender holds this version of the owner's summary
  acknowledgement : (sender held owner : ℕ) → Content
  -- the sender holds this version of the owner's summary, and wants the newest whole
  call : (sender held owner : ℕ) → Content
  -- whether a house holds the record of this name
  query : (sender request : ℕ) (name : List ℕ) → Content
  -- the record of this name is held, in reply to a query's number
  hit : (sender request : ℕ) (name : List ℕ) → Content
  -- it is not held
  miss : (sender request : ℕ) (name : List ℕ) → Content

abbrev pub opcode_of : Content → ℕ
opcode_of (changes s v es) = 20
opcode_of (whole s v xs) = 30
opcode_of (acknowledgement s h o) = 31
opcode_of (call s h o) = 32
opcode_of (query s r n) = 1
opcode_of (hit s r n) = 2
opcode_of (miss s r n) = 3

abbrev pub sender_of : Content → ℕ
sender_of (changes s v es) = s
sender_of (whole s v xs) = s
sender_of (acknowledgement s h o) = s
sender_of (call s h o) = s
sender_of (query s r n) = s
sender_of (hit s r n) = s
sender_of (miss s r n) = s

-- the request number: a version, or a query's number
abbrev pub request_of : Content → ℕ
request_of (changes s v es) = v
request_of (whole s v xs) = v
request_of (acknowledgement s h o) = h
request_of (call s h o) = h
request_of (query s r n) = r
request_of (hit s r n) = r
request_of (miss s r n) = r

-- the option data: the version before that of a change list, or the owner that is answered
abbrev pub data_of : Content → ℕ
data_of (changes s v es) = v - 1
data_of (whole s v xs) = 0
data_of (acknowledgement s h o) = o
data_of (call s h o) = o
data_of (query s r n) = 0
data_of (hit s r n) = 0
data_of (miss s r n) = 0

-- the filter of an update: 4 functions of 32 bits, m positions, c changes
abbrev pub filter_fields : ℕ → ℕ → List ℕ
filter_fields m c = octets2 4 ++ (octets2 32 ++ (octets4 m ++ octets4 c))

-- an entry of a change list: the position, and the new value as the top bit
abbrev pub entry_octets : Change → List ℕ
entry_octets e = octets4 (cond e.value 2147483648 0 + e.position)

-- a name, ended by a zero octet
abbrev pub text : List ℕ → List ℕ
text name = name ++ (0 ∷ [])

-- what follows the header, in a federation whose filters have m positions
abbrev pub body_of : ℕ → Content → List ℕ
body_of m (changes s v es) = filter_fields m (length es) ++ flat_map entry_octets es
body_of m (whole s v xs) = filter_fields m 0 ++ xs
body_of m (acknowledgement s h o) = []
body_of m (call s h o) = []
body_of m (query s r n) = octets4 s ++ text n
body_of m (hit s r n) = text n
body_of m (miss s r n) = text n

-- opcode, version 2, length, request number, options (0), option data, sender
abbrev pub header : ℕ → ℕ → ℕ → ℕ → ℕ → List ℕ
header op len request option sender = op ∷ 2 ∷ (octets2 len ++ (octets4 request ++ (octets4 0 ++ (octets4 option ++ octets4 sender))))

-- the octets of a message
abbrev pub written : ℕ → Content → List ℕ
written m c = header (opcode_of c) (20 + length (body_of m c)) (request_of c) (data_of c) (sender_of c) ++ body_of m c

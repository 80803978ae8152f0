-- What reading and writing promise together.
use Rattle.std.specs.Prelude.{◌≡◌, ℕ, ◌+◌, ◌*◌, ◌/◌, ◌^◌, ◌<◌, ◌≤◌, Bool, true, cond, not, List, [], ◌∷◌, length, None, Option, ◌==◌, slice_index}
use Rattle.std.specs.List.{AllByRecursion}
use Rattle.filter.specs.Summaries.{bit}
use Rattle.icp.specs.declared.contents.Change.{Change}
use Rattle.opening.specs.declared.opener.Opener.{Opener}
use Rattle.opening.specs.declared.opener.Call.TheVariants.{Update, Answer, Query}
use Rattle.icp.specs.declared.refusals.MessageFault.{MessageFault}
use Rattle.icp.specs.Contents.{Content, changes, whole, acknowledgement, call, query, hit, miss, written}
use Rattle.opening.specs.Reading.{rises, opens, opcode_in, update_refusal, answer_refusal, query_refusal, reply_refusal, update_in, answer_in, query_in, reply_in}
use Rattle.icp.specs.Names.{nameable}
use Rattle.icp.specs.Writing.{changed, declaration}

-- each number is that of an octet
abbrev pub Octets : List ℕ → Type 0
Octets xs = (i : ℕ) → slice_index xs i < 256

-- another house of the opener's federation
pub record Sibling (o : Opener) (s : ℕ) : Type 0 where
  pub some : 1 ≤ s
  pub within : s ≤ o.count
  pub other : s ≡ o.number → ⊥
  pub fits : s < 2 ^ 32

-- a version number: versions are declared from 1 on
pub record Versioned (v : ℕ) : Type 0 where
  pub some : 1 ≤ v
  pub fits : v < 2 ^ 32

-- the entries of a list to a filter of m positions
pub record Entries (m : ℕ) (es : List Change) : Type 0 where
  pub few : 4 * length es < m / 8
  pub rising : rises m 0 es ≡ true

-- a summary's octets
pub record Summed (m : ℕ) (xs : List ℕ) : Type 0 where
  pub long : length xs ≡ m / 8
  pub octets : Octets xs

-- a version held of the summary of this owner
pub record Held (o : Opener) (held owner : ℕ) : Type 0 where
  pub fits : held < 2 ^ 32
  pub owner_is : owner ≡ o.number
  pub owner_fits : owner < 2 ^ 32

-- a query's number and name
pub record Asked (request : ℕ) (name : List ℕ) : Type 0 where
  pub fits : request < 2 ^ 32
  pub good : nameable name ≡ true
  pub octets : Octets name

-- what a sibling may say to the opener
abbrev pub Proper : Opener → Content → Type 0
Proper o (changes s v es) = Sibling o s × Versioned v × Entries o.size.positions es
Proper o (whole s v xs) = Sibling o s × Versioned v × Summed o.size.positions xs
Proper o (acknowledgement s h w) = Sibling o s × Held o h w
Proper o (call s h w) = Sibling o s × Held o h w
Proper o (query s r n) = Sibling o s × Asked r n
Proper o (hit s r n) = Sibling o s × Asked r n
Proper o (miss s r n) = Sibling o s × Asked r n

-- what is opened: an update, an answer, a query, or the reply to a query of a number and a name
pub data Opening : Type 0 where
  update : Opening
  answer : Opening
  question : Opening
  reply : (request : ℕ) (name : List ℕ) → Opening

-- what a content is opened as
abbrev pub opening_of : Content → Opening
opening_of (changes s v es) = update
opening_of (whole s v xs) = update
opening_of (acknowledgement s h w) = answer
opening_of (call s h w) = answer
opening_of (query s r n) = question
opening_of (hit s r n) = reply r n
opening_of (miss s r n) = reply r n

-- why octets are not opened, or none
abbrev pub refusal : Opening → Opener → List ℕ → Option MessageFault
refusal update o xs = update_refusal o xs
refusal answer o xs = answer_refusal o xs
refusal question o xs = query_refusal o xs
refusal (reply r n) o xs = reply_refusal o r n xs

-- what octets say, by their opcode
abbrev pub says : List ℕ → Content
says xs =
    cond (opens Update (opcode_in xs)) (update_in xs)
    (cond (opens Answer (opcode_in xs)) (answer_in xs)
    (cond (opens Query (opcode_in xs)) (query_in xs) (reply_in xs)))

-- what was written is opened, and says what was written
abbrev pub ReadsBack : Type 0
ReadsBack = (o : Opener) (c : Content) → Proper o c
    → (refusal (opening_of c) o (written o.size.positions c) ≡ None) × (says (written o.size.positions c) ≡ c)

-- what is opened is what a sibling may say, and was written so: no other octets say it
abbrev pub WritesBack : Type 0
WritesBack = (k : Opening) (o : Opener) (xs : List ℕ) → Octets xs → refusal k o xs ≡ None
    → Proper o (says xs) × (opening_of (says xs) ≡ k) × (written o.size.positions (says xs) ≡ xs)

-- octets were written by one content
abbrev pub OneContent : Type 0
OneContent = (o : Opener) (c d : Content) → Proper o c → Proper o d → written o.size.positions c ≡ written o.size.positions d → c ≡ d

-- the value of a position after the entries of a list, where it was `value` before
abbrev pub value_after : List Change → ℕ → Bool → Bool
value_after [] p value = value
value_after (e ∷ es) p value = cond (e.position == p) e.value (value_after es p value)

-- the entries between two summaries change the first into the second
abbrev pub ChangesApply : Type 0
ChangesApply = (a b : List ℕ) (m p : ℕ) → p < m → value_after (changed a b m) p (bit a p) ≡ bit b p

-- each of them gives a position below m a value that it had not
abbrev pub ChangesDiffer : Type 0
ChangesDiffer = (a b : List ℕ) (m : ℕ) → AllByRecursion (λ e. (e.position < m) × (e.value ≡ not (bit a e.position))) (changed a b m)

-- a declaration is what a sibling may say, so that it is opened as it was written
abbrev pub DeclaresProperly : Type 0
DeclaresProperly = (o : Opener) (s earlier : ℕ) (a b : List ℕ) → Sibling o s → earlier + 1 < 2 ^ 32 → Summed o.size.positions b
    → Proper o (declaration s earlier o.size.positions o.size.positions a b)

pub record Laws : Type 0 where
  pub reads_back : ReadsBack
  pub writes_back : WritesBack
  pub one_content : OneContent
  pub changes_apply : ChangesApply
  pub changes_differ : ChangesDiffer
  pub declares_properly : DeclaresProperly

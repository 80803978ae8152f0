-- What was written is opened, and says what was written.
use Rattle.std.proofs.Common.{◌≡◌, ℕ, ◌+◌, ◌-◌, ◌*◌, ◌/◌, ◌%◌, ◌^◌, ◌<◌, ◌≤◌, Bool, true, false, cond, not, ◌&&◌, ◌||◌, eqb, ltb, leb, List, [], ◌∷◌, ◌++◌, length, get_or, take, drop, None, Option, sym, refl, ap, ◌∙◌, arith, length-append}
use Rattle.std.specs.List.{flat_map}
use Rattle.std.specs.Str.{bytes_eq}
use Rattle.std.proofs.lemmas.Slice.Eq.{bytes_eq-Decides}
use Rattle.std.proofs.lemmas.List.{take_at, get_or_at}
use Rattle.std.proofs.lemmas.Bool.{or_from, not_from_true, le-ltb, lt-ltb, eq-eqb, ne_eqb, and_parts, leb-true, ltb-true, le-leb, lt-leb}
use Rattle.icp.specs.declared.contents.Change.{Change}
use Rattle.opening.specs.declared.opener.Opener.{Opener}
use Rattle.opening.specs.declared.opener.Call.{Call}
use Rattle.opening.specs.declared.opener.Call.TheVariants.{Update, Answer, Query, Reply}
use Rattle.icp.specs.declared.refusals.MessageFault.{MessageFault}
use Rattle.icp.specs.declared.refusals.MessageFault.TheVariants as fault
use Rattle.icp.specs.Numbers.{octets4, number4}
use Rattle.icp.specs.Contents.{changes, whole, acknowledgement, call, query, hit, miss, header, filter_fields, entry_octets, text, written}
use Rattle.opening.specs.Reading.{least, stranger, wrong_length, wrong_header, wrong_sender, wrong_filter, wrong_body, wrong_version, wrong_entries, functions_in, bits_in, positions_in, count_in, body_refusal, wrong_text, other_query, opens, header_refusal, update_refusal, answer_refusal, query_refusal, reply_refusal, length_in, request_in, data_in, sender_in, opcode_in, change, entries_in, rises, all_but_last}
use Rattle.icp.specs.Names.{nameable}
use Rattle.icp.specs.Faults.{refuse}
use Rattle.opening.specs.Laws.{Sibling, Versioned, Entries, Summed, Held, Asked, says, ReadsBack, OneContent}
use Rattle.icp.proofs.Changes.{length_joined}
use Rattle.opening.proofs.Fields.{read2, read4}

-- a sibling is no stranger
known : (o : Opener) (s t : ℕ) → Sibling o s → t ≡ s → stranger o t ≡ false
known o s t sib e =
    ap (stranger o) e
    ∙ or_from (ltb s 1 || ltb o.count s) (eqb s o.number)
    (or_from (ltb s 1) (ltb o.count s) (le-ltb s 1 sib.some) (le-ltb o.count s sib.within))
    (ne_eqb s o.number sib.other)

-- a message of the length that its header says
sized : (kind : Call) (xs : List ℕ) → least kind ≤ length xs → length xs ≤ 16384 → length_in xs ≡ length xs → wrong_length kind xs ≡ false
sized kind xs long short is =
    or_from (ltb 16384 (length xs) || ltb (length xs) (least kind)) (not (eqb (length_in xs) (length xs)))
    (or_from (ltb 16384 (length xs)) (ltb (length xs) (least kind)) (le-ltb 16384 (length xs) short) (le-ltb (length xs) (least kind) long))
    (not_from_true (eqb (length_in xs) (length xs)) (eq-eqb (length_in xs) (length xs) is))

same : (m n : ℕ) → m ≡ n → not (eqb m n) ≡ false
same m n e = not_from_true (eqb m n) (eq-eqb m n e)

-- a header whose four checks pass
passes : (kind : Call) (o : Opener) (xs : List ℕ) (rest : Option MessageFault) → wrong_length kind xs ≡ false → wrong_header xs ≡ false → opens kind (opcode_in xs) ≡ true → wrong_sender kind o xs ≡ false
    → header_refusal kind o xs rest ≡ rest
passes kind o xs rest a b c d =
    λ j. refuse (a j) (fault.Length o.number) (refuse (b j) (fault.Header o.number) (refuse (not (c j)) (fault.Opcode o.number) (refuse (d j) (fault.Sender o.number (request_in xs)) rest)))

-- an entry that was written is read
entry_back : (p : ℕ) (v : Bool) → p < 2147483648 → change (number4 (octets4 (cond v 2147483648 0 + p)) 0) ≡ record { position = p; value = v }
entry_back p true h =
    let n : number4 (octets4 (2147483648 + p)) 0 ≡ 2147483648 + p = read4 (2147483648 + p) (omega arith) in
    let position : (2147483648 + p) % 2147483648 ≡ p = omega arith in
    ap change n ∙ (λ j. record { position = position j; value = le-leb 2147483648 (2147483648 + p) (omega arith) j })
entry_back p false h =
    let n : number4 (octets4 (0 + p)) 0 ≡ 0 + p = read4 (0 + p) (omega arith) in
    let position : (0 + p) % 2147483648 ≡ p = omega arith in
    ap change n ∙ (λ j. record { position = position j; value = lt-leb 2147483648 (0 + p) (omega arith) j })

-- entries that were written are read
pub entries_back : (m low : ℕ) (es : List Change) → m ≤ 65536 → rises m low es ≡ true → entries_in (flat_map entry_octets es) ≡ es
entries_back m low [] small e = refl
entries_back m low (x ∷ es) small e =
    let parts = and_parts (leb low x.position && ltb x.position m) (rises m (x.position + 1) es) e in
    let below : x.position < m = ltb-true x.position m (and_parts (leb low x.position) (ltb x.position m) parts.0).1 in
    λ j. entry_back x.position x.value (omega arith) j ∷ entries_back m (x.position + 1) es small parts.1 j

-- a text that was written is read

text_name : (name : List ℕ) → all_but_last (text name) ≡ name
text_name name =
    let n : length (text name) - 1 ≡ length name = let l = length-append name (0 ∷ []) in omega arith in
    ap (λ k. take k (text name)) n ∙ take_at name (0 ∷ []) (length name) refl

text_right : (name : List ℕ) → nameable name ≡ true → wrong_text (text name) ≡ false
text_right name good =
    let l = length-append name (0 ∷ []) in
    let n : length (text name) - 1 ≡ length name = omega arith in
    or_from (eqb (length (text name)) 0 || not (eqb (get_or (text name) (length (text name) - 1) 0) 0)) (not (nameable (all_but_last (text name))))
    (or_from (eqb (length (text name)) 0) (not (eqb (get_or (text name) (length (text name) - 1) 0) 0))
    (ne_eqb (length (text name)) 0 (λ e. omega arith))
    (same (get_or (text name) (length (text name) - 1) 0) 0 (ap (λ k. get_or (text name) k 0) n ∙ get_or_at name 0 [] 0 (length name) refl)))
    (not_from_true (nameable (all_but_last (text name))) (ap nameable (text_name name) ∙ good))

-- the fields of a header, whatever follows it
module _ (op n r d s : ℕ) (body : List ℕ) where
  abbrev message : List ℕ
  message = header op n r d s ++ body

  length_back : n < 65536 → length_in message ≡ n
  length_back h = read2 n h

  request_back : r < 2 ^ 32 → request_in message ≡ r
  request_back h = read4 r h

  data_back : d < 2 ^ 32 → data_in message ≡ d
  data_back h = read4 d h

  sender_back : s < 2 ^ 32 → sender_in message ≡ s
  sender_back h = read4 s h

  -- the length of a message whose header says it
  sized_back : (kind : Call) → n ≡ 20 + length body → least kind ≤ n → n ≤ 16384 → wrong_length kind message ≡ false
  sized_back kind e long short =
      let whole_length : length message ≡ n = omega arith in
      sized kind message (omega arith) (omega arith) (length_back (omega arith) ∙ sym whole_length)

module _ (o : Opener) where
  abbrev m : ℕ
  m = o.size.positions

  -- answers

  answer_from : (s h w t d : ℕ) → Sibling o s → Held o h w → t ≡ s → d ≡ w → (stranger o t || not (eqb d o.number)) ≡ false
  answer_from s h w t d sib held e f = or_from (stranger o t) (not (eqb d o.number)) (known o s t sib e) (same d o.number (f ∙ held.owner_is))

  acknowledgement_back : (s h w : ℕ) → Sibling o s → Held o h w
      → (answer_refusal o (written m (acknowledgement s h w)) ≡ None) × (says (written m (acknowledgement s h w)) ≡ acknowledgement s h w)
  acknowledgement_back s h w sib held =
      let xs = written m (acknowledgement s h w) in
      let sender = sender_back 31 20 h w s [] sib.fits in
      let owner = data_back 31 20 h w s [] held.owner_fits in (
        passes Answer o xs None refl refl refl (answer_from s h w (sender_in xs) (data_in xs) sib held sender owner),
        (λ j. acknowledgement (sender j) (request_back 31 20 h w s [] held.fits j) (owner j)),
      )

  call_back : (s h w : ℕ) → Sibling o s → Held o h w
      → (answer_refusal o (written m (call s h w)) ≡ None) × (says (written m (call s h w)) ≡ call s h w)
  call_back s h w sib held =
      let xs = written m (call s h w) in
      let sender = sender_back 32 20 h w s [] sib.fits in
      let owner = data_back 32 20 h w s [] held.owner_fits in (
        passes Answer o xs None refl refl refl (answer_from s h w (sender_in xs) (data_in xs) sib held sender owner),
        (λ j. call (sender j) (request_back 32 20 h w s [] held.fits j) (owner j)),
      )

  -- texts

  short_name : (name : List ℕ) → nameable name ≡ true → length name ≤ 128
  short_name name e = leb-true (length name) 128 (and_parts (leb 1 (length name)) (leb (length name) 128) (and_parts (leb 1 (length name) && leb (length name) 128) _ e).0).1

  query_back : (s r : ℕ) (name : List ℕ) → Sibling o s → Asked r name
      → (query_refusal o (written m (query s r name)) ≡ None) × (says (written m (query s r name)) ≡ query s r name)
  query_back s r name sib asked =
      let body = octets4 s ++ text name in
      let n = 20 + length body in
      let xs = written m (query s r name) in
      let short = short_name name asked.good in
      let l = length-append name (0 ∷ []) in
      let sender = sender_back 1 n r 0 s body sib.fits in
      let from : wrong_sender Query o xs ≡ false =
      or_from (stranger o (sender_in xs)) (not (eqb (number4 xs 20) (sender_in xs))) (known o s (sender_in xs) sib sender) (same (number4 xs 20) (sender_in xs) (read4 s sib.fits ∙ sym sender)) in (
        passes Query o xs (refuse (wrong_text (text name)) (fault.Name o.number) None) (sized_back 1 n r 0 s body Query refl (omega arith) (omega arith)) refl refl from
            ∙ ap (λ t. refuse t (fault.Name o.number) None) (text_right name asked.good),
        (λ j. query (sender j) (request_back 1 n r 0 s body asked.fits j) (text_name name j)),
      )

  reply_refused : (xs name : List ℕ) (r : ℕ) → drop 20 xs ≡ text name → request_in xs ≡ r → nameable name ≡ true
      → refuse (wrong_text (drop 20 xs)) (fault.Name o.number) (refuse (other_query (request_in xs) (all_but_last (drop 20 xs)) r name) (fault.Reply o.number) None) ≡ None
  reply_refused xs name r is asked good =
      let right : wrong_text (drop 20 xs) ≡ false = ap wrong_text is ∙ text_right name good in
      let named : all_but_last (drop 20 xs) ≡ name = ap all_but_last is ∙ text_name name in
      let to : other_query (request_in xs) (all_but_last (drop 20 xs)) r name ≡ false =
      or_from (not (eqb (request_in xs) r)) (not (bytes_eq (all_but_last (drop 20 xs)) name)) (same (request_in xs) r asked)
      (not_from_true (bytes_eq (all_but_last (drop 20 xs)) name) ((bytes_eq-Decides (all_but_last (drop 20 xs)) name).1 named)) in
      λ j. refuse (right j) (fault.Name o.number) (refuse (to j) (fault.Reply o.number) None)

  reply_sized : (op s r : ℕ) (name : List ℕ) → Asked r name → wrong_length Reply (message op (20 + length (text name)) r 0 s (text name)) ≡ false
  reply_sized op s r name asked =
      let short = short_name name asked.good in
      let l = length-append name (0 ∷ []) in
      sized_back op (20 + length (text name)) r 0 s (text name) Reply refl (omega arith) (omega arith)

  hit_back : (s r : ℕ) (name : List ℕ) → Sibling o s → Asked r name
      → (reply_refusal o r name (written m (hit s r name)) ≡ None) × (says (written m (hit s r name)) ≡ hit s r name)
  hit_back s r name sib asked =
      let n = 20 + length (text name) in
      let xs = written m (hit s r name) in
      let sender = sender_back 2 n r 0 s (text name) sib.fits in
      let request = request_back 2 n r 0 s (text name) asked.fits in (
        passes Reply o xs (refuse (wrong_text (text name)) (fault.Name o.number) (refuse (other_query (request_in xs) (all_but_last (text name)) r name) (fault.Reply o.number) None))
            (reply_sized 2 s r name asked) refl refl (known o s (sender_in xs) sib sender)
            ∙ reply_refused xs name r refl request asked.good,
        (λ j. hit (sender j) (request j) (text_name name j)),
      )

  miss_back : (s r : ℕ) (name : List ℕ) → Sibling o s → Asked r name
      → (reply_refusal o r name (written m (miss s r name)) ≡ None) × (says (written m (miss s r name)) ≡ miss s r name)
  miss_back s r name sib asked =
      let n = 20 + length (text name) in
      let xs = written m (miss s r name) in
      let sender = sender_back 3 n r 0 s (text name) sib.fits in
      let request = request_back 3 n r 0 s (text name) asked.fits in (
        passes Reply o xs (refuse (wrong_text (text name)) (fault.Name o.number) (refuse (other_query (request_in xs) (all_but_last (text name)) r name) (fault.Reply o.number) None))
            (reply_sized 3 s r name asked) refl refl (known o s (sender_in xs) sib sender)
            ∙ reply_refused xs name r refl request asked.good,
        (λ j. miss (sender j) (request j) (text_name name j)),
      )

  -- updates

  small : m ≤ 65536
  small = o.size.most

  eighth : m / 8 ≤ 8192
  eighth = let h = o.size.most in omega arith

  -- the checks of an update's body, each of which passes
  body_passes : (xs : List ℕ) → positions_in xs ≡ m → functions_in xs ≡ 4 → bits_in xs ≡ 32 → wrong_body o xs ≡ false → wrong_version xs ≡ false → wrong_entries o xs ≡ false
      → body_refusal o xs ≡ None
  body_passes xs positions functions bits b v e =
      let f : wrong_filter o xs ≡ false =
      or_from (not (eqb (functions_in xs) 4) || not (eqb (bits_in xs) 32)) (not (eqb (positions_in xs) m))
      (or_from (not (eqb (functions_in xs) 4)) (not (eqb (bits_in xs) 32)) (same (functions_in xs) 4 functions) (same (bits_in xs) 32 bits)) (same (positions_in xs) m positions) in
      λ j. refuse (f j) (fault.Filter o.number (request_in xs)) (refuse (b j) (fault.Body o.number (request_in xs)) (refuse (v j) (fault.Version o.number (request_in xs)) (refuse (e j) (fault.Position o.number (request_in xs)) None)))

  changes_back : (s v : ℕ) (es : List Change) → Sibling o s → Versioned v → Entries m es
      → (update_refusal o (written m (changes s v es)) ≡ None) × (says (written m (changes s v es)) ≡ changes s v es)
  changes_back s v es sib ver ent =
      let c = length es in
      let body = filter_fields m c ++ flat_map entry_octets es in
      let n = 20 + length body in
      let xs = written m (changes s v es) in
      let l = length_joined es in
      let f = ent.few in
      let e8 = eighth in
      let sm = small in
      let v1 = ver.some in
      let vf = ver.fits in
      let sender = sender_back 20 n v (v - 1) s body sib.fits in
      let request = request_back 20 n v (v - 1) s body ver.fits in
      let earlier = data_back 20 n v (v - 1) s body (omega arith) in
      let count : count_in xs ≡ c = read4 c (omega arith) in
      let entries = entries_back m 0 es sm ent.rising in
      let b : wrong_body o xs ≡ false =
      or_from (not (eqb (length xs) (32 + 4 * count_in xs))) (not (ltb (4 * count_in xs) (m / 8)))
      (same (length xs) (32 + 4 * count_in xs) (omega arith)) (not_from_true (ltb (4 * count_in xs) (m / 8)) (lt-ltb (4 * count_in xs) (m / 8) (omega arith))) in
      let w : wrong_version xs ≡ false =
      or_from (eqb (request_in xs) 0) (not (eqb (data_in xs) (request_in xs - 1))) (ne_eqb (request_in xs) 0 (λ z. omega arith)) (same (data_in xs) (request_in xs - 1) (earlier ∙ ap (λ z. z - 1) (sym request))) in
      let r : wrong_entries o xs ≡ false = not_from_true (rises m 0 (entries_in (flat_map entry_octets es))) (ap (rises m 0) entries ∙ ent.rising) in (
        passes Update o xs (body_refusal o xs) (sized_back 20 n v (v - 1) s body Update refl (omega arith) (omega arith)) refl refl (known o s (sender_in xs) sib sender)
            ∙ body_passes xs (read4 m (omega arith)) refl refl b w r,
        (λ j. changes (sender j) (request j) (entries j)),
      )

  whole_back : (s v : ℕ) (summary : List ℕ) → Sibling o s → Versioned v → Summed m summary
      → (update_refusal o (written m (whole s v summary)) ≡ None) × (says (written m (whole s v summary)) ≡ whole s v summary)
  whole_back s v summary sib ver sum =
      let body = filter_fields m 0 ++ summary in
      let n = 20 + length body in
      let xs = written m (whole s v summary) in
      let l = sum.long in
      let e8 = eighth in
      let sm = small in
      let v1 = ver.some in
      let sender = sender_back 30 n v 0 s body sib.fits in
      let request = request_back 30 n v 0 s body ver.fits in
      let b : wrong_body o xs ≡ false =
      or_from (not (eqb (length xs) (32 + m / 8))) false (same (length xs) (32 + m / 8) (omega arith)) refl in
      let w : wrong_version xs ≡ false = or_from (eqb (request_in xs) 0) false (ne_eqb (request_in xs) 0 (λ z. omega arith)) refl in (
        passes Update o xs (body_refusal o xs) (sized_back 30 n v 0 s body Update refl (omega arith) (omega arith)) refl refl (known o s (sender_in xs) sib sender)
            ∙ body_passes xs (read4 m (omega arith)) refl refl b w refl,
        (λ j. whole (sender j) (request j) summary),
      )

pub reads_back : ReadsBack
reads_back o (changes s v es) p = changes_back o s v es p.0 p.1 p.2
reads_back o (whole s v xs) p = whole_back o s v xs p.0 p.1 p.2
reads_back o (acknowledgement s h w) p = acknowledgement_back o s h w p.0 p.1
reads_back o (call s h w) p = call_back o s h w p.0 p.1
reads_back o (query s r n) p = query_back o s r n p.0 p.1
reads_back o (hit s r n) p = hit_back o s r n p.0 p.1
reads_back o (miss s r n) p = miss_back o s r n p.0 p.1

-- octets that two contents write say both
pub one_content : OneContent
one_content o c d p q e = sym (reads_back o c p).1 ∙ ap says e ∙ (reads_back o d q).1

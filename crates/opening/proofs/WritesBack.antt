-- What is opened was written so.
use Rattle.std.proofs.Common.{◌≡◌, ℕ, suc, ◌+◌, ◌-◌, ◌*◌, ◌/◌, ◌%◌, ◌<◌, ◌≤◌, Bool, true, false, cond, not, ◌&&◌, ◌||◌, eqb, ltb, leb, List, [], ◌∷◌, ◌++◌, length, get_or, take, drop, None, Option, sym, refl, ap, ◌∙◌, subst, inl, inr, arith, length-drop}
use Rattle.std.specs.List.{flat_map}
use Rattle.std.specs.Str.{bytes_eq}
use Rattle.std.proofs.lemmas.Slice.Eq.{bytes_eq-Decides}
use Rattle.std.proofs.lemmas.List.{get_or-drop, get_or-take, get_or_past, take_more, take_all, drop_all, length-take}
use Rattle.std.proofs.lemmas.Bool.{or_parts, or_cases, not-false, ltb-false, ltb-true, eqb-true, eqb-false, cases_lt, and_from}
use Rattle.std.proofs.lemmas.Bool.Decides.{nat_tests}
use Rattle.opening.specs.declared.opener.Opener.{Opener}
use Rattle.opening.specs.declared.opener.Call.{Call}
use Rattle.opening.specs.declared.opener.Call.TheVariants.{Update, Answer, Query, Reply}
use Rattle.icp.specs.declared.refusals.MessageFault.{MessageFault}
use Rattle.icp.specs.Numbers.{octets4, number4}
use Rattle.icp.specs.Contents.{Content, changes, whole, acknowledgement, call, query, hit, miss, header, filter_fields, entry_octets, text, opcode_of, request_of, data_of, sender_of, body_of, written}
use Rattle.opening.specs.Reading.{least, stranger, wrong_length, wrong_header, wrong_sender, wrong_filter, wrong_body, wrong_version, wrong_entries, functions_in, bits_in, positions_in, count_in, body_refusal, wrong_text, other_query, opens, header_refusal, version_in, length_in, request_in, options_in, data_in, sender_in, opcode_in, entries_in, rises, all_but_last}
use Rattle.icp.specs.Names.{nameable}
use Rattle.icp.specs.Faults.{refuse}
use Rattle.opening.specs.Laws.{Octets, Sibling, Versioned, Held, Asked, Proper, Opening, update, answer, question, reply, opening_of, says, WritesBack}
use Rattle.opening.proofs.ChangeLists.{length_entries}
use Rattle.opening.proofs.Fields.{fits4, write4, split, back2, back4, header_back}

-- a check that did not refuse
passed : (t : Bool) (f : MessageFault) (rest : Option MessageFault) → refuse t f rest ≡ None → (t ≡ false) × (rest ≡ None)
passed true f rest e = let z : ◌≡◌ {A = ℕ} 0 1 = cc in absurd (omega arith)
passed false f rest e = (refl, e)

equal : (m n : ℕ) → not (eqb m n) ≡ false → m ≡ n
equal m n e = eqb-true m n (not-false (eqb m n) e)

-- what a header that passes its checks says
record Fields (kind : Call) (o : Opener) (xs : List ℕ) : Type 0 where
  pub long : least kind ≤ length xs
  pub sized : length_in xs ≡ length xs
  pub version : version_in xs ≡ 2
  pub options : options_in xs ≡ 0
  pub plain : ((leb 1 (opcode_in xs) && leb (opcode_in xs) 3) && not (eqb (data_in xs) 0)) ≡ false
  pub opened : opens kind (opcode_in xs) ≡ true
  pub from : wrong_sender kind o xs ≡ false

fields : (kind : Call) (o : Opener) (xs : List ℕ) (rest : Option MessageFault) → header_refusal kind o xs rest ≡ None → Fields kind o xs × (rest ≡ None)
fields kind o xs rest e =
    let a = passed (wrong_length kind xs) _ _ e in
    let b = passed (wrong_header xs) _ _ a.1 in
    let c = passed (not (opens kind (opcode_in xs))) _ _ b.1 in
    let d = passed (wrong_sender kind o xs) _ _ c.1 in
    let l = or_parts (ltb 16384 (length xs) || ltb (length xs) (least kind)) (not (eqb (length_in xs) (length xs))) a.0 in
    let m = or_parts (ltb 16384 (length xs)) (ltb (length xs) (least kind)) l.0 in
    let h = or_parts (not (eqb (version_in xs) 2) || not (eqb (options_in xs) 0)) _ b.0 in
    let i = or_parts (not (eqb (version_in xs) 2)) (not (eqb (options_in xs) 0)) h.0 in (
      record {
        long = ltb-false (length xs) (least kind) m.1;
        sized = equal (length_in xs) (length xs) l.1;
        version = equal (version_in xs) 2 i.0;
        options = equal (options_in xs) 0 i.1;
        plain = h.1;
        opened = not-false (opens kind (opcode_in xs)) c.0;
        from = d.0;
      },
      d.1,
    )

-- a sender that is no stranger is a sibling
sibling : (o : Opener) (xs : List ℕ) → Octets xs → stranger o (sender_in xs) ≡ false → Sibling o (sender_in xs)
sibling o xs octets e =
    let s = sender_in xs in
    let a = or_parts (ltb s 1 || ltb o.count s) (eqb s o.number) e in
    let b = or_parts (ltb s 1) (ltb o.count s) a.0 in
    record { some = ltb-false s 1 b.0; within = ltb-false o.count s b.1; other = eqb-false s o.number a.1; fits = fits4 xs 16 octets }

-- a content that says what the fields and the body of octets say is written as they are
written_back : (kind : Call) (o : Opener) (m : ℕ) (xs : List ℕ) (c : Content) → Octets xs → Fields kind o xs → 20 ≤ length xs
    → opcode_of c ≡ opcode_in xs → request_of c ≡ request_in xs → data_of c ≡ data_in xs → sender_of c ≡ sender_in xs → body_of m c ≡ drop 20 xs
    → written m c ≡ xs
written_back kind o m xs c octets f long op request option sender body =
    let n : 20 + length (body_of m c) ≡ length xs = let l = length-drop 20 xs in let b = ap length body in omega arith in
    (λ j. header (op j) (n j) (request j) (option j) (sender j) ++ body j)
    ∙ header_back xs octets long f.version f.options f.sized

-- what octets say, by their opcode
abbrev chosen : ℕ → List ℕ → Content
chosen op xs =
    cond (opens Update op) (cond (eqb op 20) (changes (sender_in xs) (request_in xs) (entries_in (drop 32 xs))) (whole (sender_in xs) (request_in xs) (drop 32 xs)))
    (cond (opens Answer op) (cond (eqb op 31) (acknowledgement (sender_in xs) (request_in xs) (data_in xs)) (call (sender_in xs) (request_in xs) (data_in xs)))
    (cond (opens Query op) (query (sender_in xs) (request_in xs) (all_but_last (drop 24 xs)))
    (cond (eqb op 2) (hit (sender_in xs) (request_in xs) (all_but_last (drop 20 xs))) (miss (sender_in xs) (request_in xs) (all_but_last (drop 20 xs))))))

-- the statement at octets that say c
abbrev Back : Opening → Opener → List ℕ → Content → Type 0
Back k o xs c = Proper o c × (opening_of c ≡ k) × (written o.size.positions c ≡ xs)

says_it : (k : Opening) (o : Opener) (xs : List ℕ) (op : ℕ) → opcode_in xs ≡ op → Back k o xs (chosen op xs) → Back k o xs (says xs)
says_it k o xs op e = subst (λ z. Back k o xs (chosen z xs)) (sym e)

-- octets behind a place
dropped : (xs : List ℕ) (n : ℕ) → Octets xs → Octets (drop n xs)
dropped xs n h i = subst (λ x. x < 256) (sym (get_or-drop n xs i 0)) (h (n + i))

taken : (xs : List ℕ) (n : ℕ) → Octets xs → Octets (take n xs)
taken xs n h i =
    elim (cases_lt i n) [
      | inl below ↦ subst (λ x. x < 256) (sym (get_or-take n xs i 0 below)) (h i)
      | inr past ↦ subst (λ x. x < 256) (sym (get_or_past (take n xs) i 0 (let l = length-take n xs in omega arith))) (omega arith)
    ]

-- the entries of a list are written as they are read

halves : (n : ℕ) → n < 4294967296 → cond (leb 2147483648 n) 2147483648 0 + n % 2147483648 ≡ n
halves n h = grind (arith, nat_tests)

pub entries_written : (xs : List ℕ) → Octets xs → length xs % 4 ≡ 0 → flat_map entry_octets (entries_in xs) ≡ xs
entries_written [] h e = refl
entries_written (a ∷ []) h e = absurd (omega arith)
entries_written (a ∷ b ∷ []) h e = absurd (omega arith)
entries_written (a ∷ b ∷ c ∷ []) h e = absurd (omega arith)
entries_written (a ∷ b ∷ c ∷ d ∷ xs) h e =
    let n = number4 (a ∷ b ∷ c ∷ d ∷ []) 0 in
    let ha = h 0 in
    let hb = h 1 in
    let hc = h 2 in
    let hd = h 3 in
    (λ j. octets4 (halves n (omega arith) j) ++ entries_written xs (λ i. h (suc (suc (suc (suc i))))) (omega arith) j)
    ∙ ap (λ z. z ++ xs) (write4 a b c d ha hb hc hd)

-- a text is written as it is read
text_written : (ys : List ℕ) → wrong_text ys ≡ false → (text (all_but_last ys) ≡ ys) × (nameable (all_but_last ys) ≡ true)
text_written ys e =
    let n = length ys in
    let a = or_parts (eqb n 0 || not (eqb (get_or ys (n - 1) 0) 0)) (not (nameable (all_but_last ys))) e in
    let b = or_parts (eqb n 0) (not (eqb (get_or ys (n - 1) 0) 0)) a.0 in
    let some : 1 ≤ n = let z = eqb-false n 0 b.0 in omega arith in
    let last : get_or ys (n - 1) 0 ≡ 0 = equal (get_or ys (n - 1) 0) 0 b.1 in
    let all : n - 1 + 1 ≡ n = omega arith in (
      sym (sym (take_all n ys (omega arith)) ∙ ap (λ k. take k ys) (sym all) ∙ take_more ys (n - 1) 0 (omega arith) ∙ ap (λ x. all_but_last ys ++ (x ∷ [])) last),
      not-false (nameable (all_but_last ys)) a.1,
    )

module _ (o : Opener) (xs : List ℕ) (octets : Octets xs) where
  abbrev m : ℕ
  m = o.size.positions

  -- updates

  -- the facts that an update's body passes its checks by
  record Bodied : Type 0 where
    pub functions : functions_in xs ≡ 4
    pub bits : bits_in xs ≡ 32
    pub positions : positions_in xs ≡ m
    pub body : wrong_body o xs ≡ false
    pub some : request_in xs ≡ 0 → ⊥
    pub earlier : data_in xs ≡ cond (eqb (opcode_in xs) 20) (request_in xs - 1) 0
    pub entries : wrong_entries o xs ≡ false

  bodied : body_refusal o xs ≡ None → Bodied
  bodied e =
      let a = passed (wrong_filter o xs) _ _ e in
      let b = passed (wrong_body o xs) _ _ a.1 in
      let c = passed (wrong_version xs) _ _ b.1 in
      let d = passed (wrong_entries o xs) _ _ c.1 in
      let f = or_parts (not (eqb (functions_in xs) 4) || not (eqb (bits_in xs) 32)) (not (eqb (positions_in xs) m)) a.0 in
      let g = or_parts (not (eqb (functions_in xs) 4)) (not (eqb (bits_in xs) 32)) f.0 in
      let v = or_parts (eqb (request_in xs) 0) (not (eqb (data_in xs) (cond (eqb (opcode_in xs) 20) (request_in xs - 1) 0))) c.0 in
      record {
        functions = equal (functions_in xs) 4 g.0;
        bits = equal (bits_in xs) 32 g.1;
        positions = equal (positions_in xs) m f.1;
        body = b.0;
        some = eqb-false (request_in xs) 0 v.0;
        earlier = equal (data_in xs) (cond (eqb (opcode_in xs) 20) (request_in xs - 1) 0) v.1;
        entries = d.0;
      }

  -- the fields of the filter are written as they are read
  filter_written : (c : ℕ) → 32 ≤ length xs → Bodied → count_in xs ≡ c → filter_fields m c ++ drop 32 xs ≡ drop 20 xs
  filter_written c long b count =
      (λ j. (back2 xs octets 20 4 b.functions j ++ (back2 xs octets 22 32 b.bits j ++ (back4 xs octets 24 m b.positions j ++ back4 xs octets 28 c count j))) ++ drop 32 xs)
      ∙ sym (split xs 20 12 long)

  versioned : Bodied → Versioned (request_in xs)
  versioned b = record { some = (let z = b.some in omega arith); fits = fits4 xs 4 octets }

  list_back : Fields Update o xs → Bodied → opcode_in xs ≡ 20 → Back update o xs (changes (sender_in xs) (request_in xs) (entries_in (drop 32 xs)))
  list_back f b op =
      let c = count_in xs in
      let es = entries_in (drop 32 xs) in
      let long : 32 ≤ length xs = f.long in
      let body : (not (eqb (length xs) (32 + 4 * c)) || not (ltb (4 * c) (m / 8))) ≡ false =
      sym (ap (λ z. cond (eqb z 20) (not (eqb (length xs) (32 + 4 * c)) || not (ltb (4 * c) (m / 8))) (not (eqb (length xs) (32 + m / 8)) || not (eqb c 0))) op) ∙ b.body in
      let parts = or_parts (not (eqb (length xs) (32 + 4 * c))) (not (ltb (4 * c) (m / 8))) body in
      let sized = equal (length xs) (32 + 4 * c) parts.0 in
      let few = ltb-true (4 * c) (m / 8) (not-false (ltb (4 * c) (m / 8)) parts.1) in
      let rest = length-drop 32 xs in
      let number = length_entries (drop 32 xs) in
      let counted : c ≡ length es = omega arith in
      let rising : rises m 0 es ≡ true =
      not-false (rises m 0 es) (sym (ap (λ z. eqb z 20 && not (rises m 0 es)) op) ∙ b.entries) in
      let earlier : data_in xs ≡ request_in xs - 1 = b.earlier ∙ ap (λ z. cond (eqb z 20) (request_in xs - 1) 0) op in
      let entries : flat_map entry_octets es ≡ drop 32 xs = entries_written (drop 32 xs) (dropped xs 32 octets) (omega arith) in (
        (sibling o xs octets f.from, versioned b, record { few = omega arith; rising = rising }),
        refl,
        written_back Update o m xs (changes (sender_in xs) (request_in xs) es) octets f (omega arith) (sym op) refl (sym earlier) refl
            (ap (λ z. filter_fields m (length es) ++ z) entries ∙ filter_written (length es) long b counted),
      )

  whole_back : Fields Update o xs → Bodied → opcode_in xs ≡ 30 → Back update o xs (whole (sender_in xs) (request_in xs) (drop 32 xs))
  whole_back f b op =
      let c = count_in xs in
      let long : 32 ≤ length xs = f.long in
      let body : (not (eqb (length xs) (32 + m / 8)) || not (eqb c 0)) ≡ false =
      sym (ap (λ z. cond (eqb z 20) (not (eqb (length xs) (32 + 4 * c)) || not (ltb (4 * c) (m / 8))) (not (eqb (length xs) (32 + m / 8)) || not (eqb c 0))) op) ∙ b.body in
      let parts = or_parts (not (eqb (length xs) (32 + m / 8))) (not (eqb c 0)) body in
      let sized = equal (length xs) (32 + m / 8) parts.0 in
      let none = equal c 0 parts.1 in
      let rest = length-drop 32 xs in
      let earlier : data_in xs ≡ 0 = b.earlier ∙ ap (λ z. cond (eqb z 20) (request_in xs - 1) 0) op in (
        (sibling o xs octets f.from, versioned b, record { long = omega arith; octets = dropped xs 32 octets }),
        refl,
        written_back Update o m xs (whole (sender_in xs) (request_in xs) (drop 32 xs)) octets f (omega arith) (sym op) refl (sym earlier) refl (filter_written 0 long b none),
      )

  -- answers

  held : Fields Answer o xs → Sibling o (sender_in xs) × Held o (request_in xs) (data_in xs)
  held f =
      let a = or_parts (stranger o (sender_in xs)) (not (eqb (data_in xs) o.number)) f.from in
      (sibling o xs octets a.0, record { fits = fits4 xs 4 octets; owner_is = equal (data_in xs) o.number a.1; owner_fits = fits4 xs 12 octets })

  none_behind : length xs ≡ 20 → [] ≡ drop 20 xs
  none_behind e = sym (drop_all 20 xs (omega arith))

  -- queries and replies

  no_data : (op : ℕ) → ((leb 1 op && leb op 3) && not (eqb (data_in xs) 0)) ≡ false → leb 1 op ≡ true → leb op 3 ≡ true → 0 ≡ data_in xs
  no_data op plain low high =
      sym (equal (data_in xs) 0 (sym (ap (λ t. t && not (eqb (data_in xs) 0)) (and_from (leb 1 op) (leb op 3) low high)) ∙ plain))

  plain_at : (op : ℕ) → opcode_in xs ≡ op → ((leb 1 (opcode_in xs) && leb (opcode_in xs) 3) && not (eqb (data_in xs) 0)) ≡ false → ((leb 1 op && leb op 3) && not (eqb (data_in xs) 0)) ≡ false
  plain_at op e plain = sym (ap (λ z. (leb 1 z && leb z 3) && not (eqb (data_in xs) 0)) e) ∙ plain

  asked : (at : ℕ) → nameable (all_but_last (drop at xs)) ≡ true → Asked (request_in xs) (all_but_last (drop at xs))
  asked at good = record { fits = fits4 xs 4 octets; good = good; octets = taken (drop at xs) (length (drop at xs) - 1) (dropped xs at octets) }

  query_back : Fields Query o xs → opcode_in xs ≡ 1 → wrong_text (drop 24 xs) ≡ false → Back question o xs (query (sender_in xs) (request_in xs) (all_but_last (drop 24 xs)))
  query_back f op right =
      let t = text_written (drop 24 xs) right in
      let a = or_parts (stranger o (sender_in xs)) (not (eqb (number4 xs 20) (sender_in xs))) f.from in
      let long : 24 ≤ length xs = f.long in (
        (sibling o xs octets a.0, asked 24 t.1),
        refl,
        written_back Query o m xs (query (sender_in xs) (request_in xs) (all_but_last (drop 24 xs))) octets f (omega arith) (sym op) refl (no_data 1 (plain_at 1 op f.plain) refl refl) refl
            ((λ j. back4 xs octets 20 (sender_in xs) (equal (number4 xs 20) (sender_in xs) a.1) j ++ t.0 j) ∙ sym (split xs 20 4 long)),
      )

  -- a reply's number and name are those of the query
  replied : (r : ℕ) (name : List ℕ) → other_query (request_in xs) (all_but_last (drop 20 xs)) r name ≡ false → reply (request_in xs) (all_but_last (drop 20 xs)) ≡ reply r name
  replied r name e =
      let a = or_parts (not (eqb (request_in xs) r)) (not (bytes_eq (all_but_last (drop 20 xs)) name)) e in
      let number = equal (request_in xs) r a.0 in
      let named = (bytes_eq-Decides (all_but_last (drop 20 xs)) name).0 (not-false (bytes_eq (all_but_last (drop 20 xs)) name) a.1) in
      λ j. reply (number j) (named j)

  reply_body : (c : Content) (op : ℕ) → Fields Reply o xs → opcode_in xs ≡ op → leb 1 op ≡ true → leb op 3 ≡ true → wrong_text (drop 20 xs) ≡ false
      → opcode_of c ≡ op → request_of c ≡ request_in xs → data_of c ≡ 0 → sender_of c ≡ sender_in xs → body_of m c ≡ text (all_but_last (drop 20 xs)) → written m c ≡ xs
  reply_body c op f e low high right opcode request option sender body =
      let long : 20 ≤ length xs = f.long in
      written_back Reply o m xs c octets f long (opcode ∙ sym e) request (option ∙ no_data op (plain_at op e f.plain) low high) sender (body ∙ (text_written (drop 20 xs) right).0)

pub writes_back : WritesBack
writes_back update o xs octets e =
    let f = fields Update o xs _ e in
    let b = bodied o xs octets f.1 in
    elim (or_cases (eqb (opcode_in xs) 20) (eqb (opcode_in xs) 30) f.0.opened) [
      | inl list ↦ let op = eqb-true (opcode_in xs) 20 list in says_it update o xs 20 op (list_back o xs octets f.0 b op)
      | inr all ↦ let op = eqb-true (opcode_in xs) 30 all in says_it update o xs 30 op (whole_back o xs octets f.0 b op)
    ]
writes_back answer o xs octets e =
    let f = fields Answer o xs _ e in
    let sized = equal (length xs) 20 (passed (not (eqb (length xs) 20)) _ _ f.1).0 in
    let h = held o xs octets f.0 in
    let behind = none_behind o xs octets sized in
    let long : 20 ≤ length xs = f.0.long in
    elim (or_cases (eqb (opcode_in xs) 31) (eqb (opcode_in xs) 32) f.0.opened) [
      | inl ack ↦ let op = eqb-true (opcode_in xs) 31 ack in
          says_it answer o xs 31 op (h, refl, written_back Answer o o.size.positions xs (acknowledgement (sender_in xs) (request_in xs) (data_in xs)) octets f.0 long (sym op) refl refl refl behind)
      | inr wanted ↦ let op = eqb-true (opcode_in xs) 32 wanted in
          says_it answer o xs 32 op (h, refl, written_back Answer o o.size.positions xs (call (sender_in xs) (request_in xs) (data_in xs)) octets f.0 long (sym op) refl refl refl behind)
    ]
writes_back question o xs octets e =
    let f = fields Query o xs _ e in
    let right = (passed (wrong_text (drop 24 xs)) _ _ f.1).0 in
    let op = eqb-true (opcode_in xs) 1 f.0.opened in
    says_it question o xs 1 op (query_back o xs octets f.0 op right)
writes_back (reply r name) o xs octets e =
    let f = fields Reply o xs _ e in
    let a = passed (wrong_text (drop 20 xs)) _ _ f.1 in
    let b = passed (other_query (request_in xs) (all_but_last (drop 20 xs)) r name) _ _ a.1 in
    let to = replied o xs octets r name b.0 in
    let from = sibling o xs octets f.0.from in
    let q = asked o xs octets 20 (text_written (drop 20 xs) a.0).1 in
    elim (or_cases (eqb (opcode_in xs) 2) (eqb (opcode_in xs) 3) f.0.opened) [
      | inl held ↦ let op = eqb-true (opcode_in xs) 2 held in
          says_it (reply r name) o xs 2 op
          ((from, q), to, reply_body o xs octets (hit (sender_in xs) (request_in xs) (all_but_last (drop 20 xs))) 2 f.0 op refl refl a.0 refl refl refl refl refl)
      | inr missed ↦ let op = eqb-true (opcode_in xs) 3 missed in
          says_it (reply r name) o xs 3 op
          ((from, q), to, reply_body o xs octets (miss (sender_in xs) (request_in xs) (all_but_last (drop 20 xs))) 3 f.0 op refl refl a.0 refl refl refl refl refl)
    ]

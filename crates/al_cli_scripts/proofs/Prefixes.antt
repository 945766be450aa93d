-- What the beginning of the waiting bytes shows: a whole command, a wrong line, or neither yet.
use Rattle.std.proofs.Common.{◌≡◌, ◌≢◌, ℕ, ◌+◌, ◌-◌, ◌^◌, ◌≤◌, ◌<◌, inl, inr, List, [], ◌∷◌, ◌++◌, length, get_or, take, drop, All}
use Rattle.std.proofs.Common.{refl, sym, ap, subst, ◌∙◌, arith, append_assoc, append-nil, length-append, length-take, length-drop, rules}
use Rattle.std.proofs.Common.{decimal}
use Rattle.std.proofs.lemmas.Grind.{common_steps}
use Rattle.std.proofs.lemmas.List.{drop_more, take-append-drop, take_all}
use Rattle.std.proofs.Math.Seq.{drop-drop}
use Rattle.al_cli_scripts.specs.Script.{Command, Put, ScriptLine, PutLine, IsLine, IsPathText, line_bytes, line_of, body_of, HasNoBreak, command_bytes, IsWrong, IsPending}
use Rattle.al_cli_scripts.specs.Private.Next.{IsFirst, IsLengthOf}
use Rattle.al_cli_scripts.proofs.Laws.{first_unique, last_unique, has_none, digits_without, line_unbroken, line_unique, no_early}
use Rattle.std.proofs.Common.{Option, None, Some, Result, Ok, Err, MatchOption, min, get_or-take, Bool, true, false, ◌&&◌, nat_lt, ltb-true, bytes_eq}
use Rattle.std.specs.Bool.{then_some}
use Rattle.std.proofs.lemmas.Bool.{and_parts}
use Rattle.std.proofs.lemmas.Bool.Decides.{nat_tests}
use Rattle.std.proofs.lemmas.Slice.Eq.{bytes_eq-Decides}
use Rattle.std.proofs.lemmas.List.Elements.{All-drop}
use Rattle.std.proofs.lemmas.Fmt.{IsAscii-decimal, parse-decimal}
use Rattle.std.proofs.lemmas.Str.{IsUtf8-from_ascii}
use Rattle.std.specs.Str.{IsUtf8}
use Rattle.std.specs.Str.Parse.{ParsesUnsigned}

-- a list split at an element
pub cut_at : (xs : List ℕ) (k d : ℕ) → k < length xs → get_or xs k 0 ≡ d → xs ≡ take k xs ++ d ∷ drop (k + 1) xs
cut_at xs k d h e =
    let rest : drop k xs ≡ d ∷ drop (k + 1) xs = rw (drop_more xs k 0 h, e) in
    sym (take-append-drop k xs) ∙ ap (λ l. take k xs ++ l) rest

no_break : (bytes l r : List ℕ) → HasNoBreak bytes → bytes ≡ l ++ 10 ∷ r → ⊥
no_break bytes l r p e = has_none 10 l r (subst HasNoBreak e p)

-- a command begins with its line and an LF
begins_is : (bytes : List ℕ) (c : Command) (more : List ℕ) → bytes ≡ command_bytes c ++ more → bytes ≡ line_bytes (line_of c) ++ 10 ∷ (body_of c ++ more)
begins_is bytes c more e = e ∙ append_assoc (line_bytes (line_of c)) (10 ∷ body_of c) more

-- up to 2048 bytes without an LF may still become a command
pub pending_short : (bytes : List ℕ) → HasNoBreak (take 2049 bytes) → length bytes ≤ 2048 → IsPending bytes
pending_short bytes p short =
    let plain : HasNoBreak bytes = subst HasNoBreak (take_all 2049 bytes (omega arith)) p in
    record {
      unfinished = λ b. no_break bytes (line_bytes (line_of b.0)) (body_of b.0 ++ b.1) plain (begins_is bytes b.0 b.1 b.3);
      hopeful = λ w. elim w [
        | inl v ↦ no_break bytes v.0 v.1 plain v.2
        | inr v ↦ elim v [
          | inl u ↦ let h : 2049 ≤ length bytes = u.0 in absurd (omega (arith, h))
          | inr u ↦ no_break bytes (line_bytes (PutLine u.0 (length u.1))) (u.1 ++ u.2 ∷ u.3) plain
              (u.5 ∙ append_assoc (line_bytes (PutLine u.0 (length u.1))) (10 ∷ u.1) (u.2 ∷ u.3))
        ]
      ];
    }

-- a line that isn't a command's
pub wrong_here : (bytes : List ℕ) (end : ℕ) → end < length bytes → get_or bytes end 0 ≡ 10 → HasNoBreak (take end bytes)
    → ((l : ScriptLine) → IsLine l → take end bytes ≢ line_bytes l) → IsWrong bytes
wrong_here bytes end h lf plain never = inl (take end bytes, drop (end + 1) bytes, cut_at bytes end 10 h lf, plain, never)

body_long : (c : Command) (path : List ℕ) (len : ℕ) (more : List ℕ) → PutLine path len ≡ line_of c → len < length (body_of c ++ more)
body_long (Put p b) path len more e =
    let n : len ≡ length b = cc in
    omega (arith, n, length-append (b ++ 10 ∷ []) more, length-append b (10 ∷ []))
body_long _ path len more e = absurd cc

put_length : (p q : List ℕ) (n m : ℕ) → PutLine p n ≡ PutLine q m → n ≡ m
put_length p q n m e = cc

module _ (bytes : List ℕ) (end : ℕ) (path : List ℕ) (len : ℕ) (within : end < length bytes) (ok : IsLine (PutLine path len))
    (shown : take end bytes ≡ line_bytes (PutLine path len)) (lf : get_or bytes end 0 ≡ 10) where
  put_split : bytes ≡ line_bytes (PutLine path len) ++ 10 ∷ drop (end + 1) bytes
  put_split = cut_at bytes end 10 within lf ∙ ap (λ l. l ++ 10 ∷ drop (end + 1) bytes) shown

  -- if the bytes begin with some line and an LF, it is this line
  same_line : (l : ScriptLine) (rest : List ℕ) → IsLine l → bytes ≡ line_bytes l ++ 10 ∷ rest → (PutLine path len ≡ l) × (drop (end + 1) bytes ≡ rest)
  same_line l rest okl e =
      let s = first_unique 10 (line_bytes (PutLine path len)) (line_bytes l) (drop (end + 1) bytes) rest (line_unbroken (PutLine path len) ok) (line_unbroken l okl) (sym put_split ∙ e) in
      (line_unique (PutLine path len) l ok okl s.0, s.1)

  -- the bytes of the put aren't complete
  pub put_pending : (body : List ℕ) → body ≡ drop (end + 1) bytes → length body ≤ len → IsPending bytes
  put_pending body be short = record {
    unfinished = λ b.
        let s = same_line (line_of b.0) (body_of b.0 ++ b.1) b.2 (begins_is bytes b.0 b.1 b.3) in
        let long : len < length (body_of b.0 ++ b.1) = body_long b.0 path len b.1 s.0 in
        let f : length body ≡ length (body_of b.0 ++ b.1) = ap length (be ∙ s.1) in
        absurd (omega (arith, long, f));
    hopeful = λ w. elim w [
      | inl v ↦
          let s = first_unique 10 (line_bytes (PutLine path len)) v.0 (drop (end + 1) bytes) v.1 (line_unbroken (PutLine path len) ok) v.3 (sym put_split ∙ v.2) in
          v.4 (PutLine path len) ok (sym s.0)
      | inr v ↦ elim v [
        | inl u ↦
            let line_short : length (line_bytes (PutLine path len)) ≤ 2048 = ok.short in
            no_early 10 2049 bytes [] (line_bytes (PutLine path len)) (drop (end + 1) bytes) u.0 u.1 (omega arith) (append-nil bytes ∙ put_split)
        | inr u ↦
            let s = same_line (PutLine u.0 (length u.1)) (u.1 ++ u.2 ∷ u.3) u.4 (u.5 ∙ append_assoc (line_bytes (PutLine u.0 (length u.1))) (10 ∷ u.1) (u.2 ∷ u.3)) in
            let n : len ≡ length u.1 = put_length path u.0 len (length u.1) s.0 in
            let f : length body ≡ length (u.1 ++ u.2 ∷ u.3) = ap length (be ∙ s.1) in
            absurd (omega (arith, n, f, length-append u.1 (u.2 ∷ u.3)))
      ]
    ];
  }

  body_split : (body : List ℕ) (d : ℕ) → body ≡ drop (end + 1) bytes → len < length body → get_or body len 0 ≡ d
      → bytes ≡ line_bytes (PutLine path len) ++ 10 ∷ (take len body ++ d ∷ drop (len + 1) body)
  body_split body d be long e = put_split ∙ ap (λ l. line_bytes (PutLine path len) ++ 10 ∷ l) (sym be ∙ cut_at body len d long e)

  taken : (body : List ℕ) → len < length body → length (take len body) ≡ len
  taken body long = search (rules, common_steps)

  -- the byte after those of the put isn't LF
  pub put_wrong : (body : List ℕ) → body ≡ drop (end + 1) bytes → len < length body → get_or body len 0 ≢ 10 → IsWrong bytes
  put_wrong body be long ne =
      let n : length (take len body) ≡ len = taken body long in
      inr (inr (
        path,
        take len body,
        get_or body len 0,
        drop (len + 1) body,
        rw n ok,
        rw (n, append_assoc (line_bytes (PutLine path len)) (10 ∷ take len body) (get_or body len 0 ∷ drop (len + 1) body)) (body_split body (get_or body len 0) be long refl),
        ne,
      ))

  -- a whole put
  pub put_whole : (body : List ℕ) → body ≡ drop (end + 1) bytes → len < length body → get_or body len 0 ≡ 10 → IsFirst bytes (Put path (take len body)) (end + 1 + len + 1)
  put_whole body be long e =
      let n : length (take len body) ≡ len = taken body long in
      let rest : drop (len + 1) body ≡ drop (end + 1 + len + 1) bytes = ap (drop (len + 1)) be ∙ drop-drop (len + 1) (end + 1) bytes ∙ ap (λ k. drop k bytes) (omega arith) in
      let size : length body ≡ length bytes - (end + 1) = ap length be ∙ length-drop (end + 1) bytes in
      record {
        command_ok = rw n ok;
        within = omega (arith, size, long, within);
        moves = omega arith;
        whole = rw (n, append_assoc (line_bytes (PutLine path len)) (10 ∷ (take len body ++ 10 ∷ [])), append_assoc (take len body) (10 ∷ []), ← rest) (body_split body 10 be long e);
      }

-- ---- the parts of a line

pub find_is : (bytes prefix : List ℕ) (r : Option ℕ) → prefix ≡ take 2049 bytes
    → MatchOption r (HasNoBreak prefix) (λ end. (end < length prefix) × HasNoBreak (take end prefix) × (get_or prefix end 0 ≡ 10))
    → MatchOption r (HasNoBreak (take 2049 bytes)) (λ end. (end < length bytes) × (end ≤ 2048) × HasNoBreak (take end bytes) × (get_or bytes end 0 ≡ 10))
find_is bytes prefix None f p = subst HasNoBreak f p
find_is bytes prefix (Some k) f p =
    let n : length prefix ≡ min 2049 (length bytes) = ap length f ∙ length-take 2049 bytes in
    let h : k < length prefix = p.0 in
    let t : take k prefix ≡ take k bytes = ap (take k) f ∙ take_less k 2049 bytes (omega (arith, n, h)) in
    let g : get_or prefix k 0 ≡ get_or bytes k 0 = ap (λ l. get_or l k 0) f ∙ get_or-take 2049 bytes k 0 (omega (arith, n, h)) in
    (omega (arith, n, h), omega (arith, n, h), subst HasNoBreak t p.1, sym g ∙ p.2)
  where
    take_less : (a b : ℕ) (l : List ℕ) → a ≤ b → take a (take b l) ≡ take a l
    take_less a b l h = search (rules, common_steps)

decimal_utf8 : (n : ℕ) (ds : List ℕ) → n < 10 ^ 7 → ds ≡ decimal n → IsUtf8 ds
decimal_utf8 n ds h e = rw e (IsUtf8-from_ascii (decimal n) (IsAscii-decimal n (omega arith)))

pub not_text : (ds : List ℕ) → (IsUtf8 ds → ⊥) → (n : ℕ) → n < 10 ^ 7 → ds ≢ decimal n
not_text ds bad n h e = bad (decimal_utf8 n ds h e)

pub not_parsed : {E : Type 0} (ds text : List ℕ) (r : Result ℕ E) (x : E) → ParsesUnsigned 32 10 text r → text ≡ ds → r ≡ Err x → (n : ℕ) → n < 10 ^ 7 → ds ≢ decimal n
not_parsed ds text r x p t q n h e = let f : r ≡ Ok n = parse-decimal 32 n text r (omega arith) (omega arith) (t ∙ e) p in absurd cc

-- the number that was parsed, if it is below 10,000,000 and has these digits
pub spelled : {E : Type 0} (ds text : List ℕ) (r : Result ℕ E) (k : ℕ) (b : Bool) → ParsesUnsigned 32 10 text r → text ≡ ds → r ≡ Ok k
    → b ≡ (nat_lt k (10 ^ 7) && bytes_eq (decimal k) text) → IsLengthOf ds (then_some b k)
spelled ds text r k true p t q b =
    let parts = and_parts (nat_lt k (10 ^ 7)) (bytes_eq (decimal k) text) (sym b) in
    (ltb-true k (10 ^ 7) parts.0, sym ((bytes_eq-Decides (decimal k) text).0 parts.1 ∙ t))
spelled ds text r k false p t q b = λ n small e.
    let f : r ≡ Ok n = parse-decimal 32 n text r (omega arith) (omega arith) (t ∙ e) p in
    let same : k ≡ n = cc in
    let all : bytes_eq (decimal k) text ≡ true = (bytes_eq-Decides (decimal k) text).1 (ap decimal same ∙ sym (t ∙ e)) in
    absurd (grind (arith, nat_tests, b, all))

-- bytes without a space aren't a path, a space and a length
pub no_space : (rest : List ℕ) → All (λ b. b ≢ 32) rest → (path : List ℕ) (len : ℕ) → IsPathText path → len < 10 ^ 7 → rest ≢ path ++ 32 ∷ decimal len
no_space rest p path len ok h e = has_none 32 path (decimal len) (subst (All (λ b. b ≢ 32)) e p)

-- the last space separates the path and the length
pub put_parts : (rest : List ℕ) (at : ℕ) → at < length rest → get_or rest at 0 ≡ 32 → All (λ b. b ≢ 32) (drop (at + 1) rest)
    → (path : List ℕ) (len : ℕ) → len < 10 ^ 7 → rest ≡ path ++ 32 ∷ decimal len → (take at rest ≡ path) × (drop (at + 1) rest ≡ decimal len)
put_parts rest at h e none path len n f =
    last_unique 32 (take at rest) path (drop (at + 1) rest) (decimal len) none (digits_without 32 len (omega arith) (omega arith)) (sym (cut_at rest at 32 h e) ∙ f)

-- the rest of a line after a prefix has no LF either
pub unbroken_rest : (line prefix rest : List ℕ) → HasNoBreak line → line ≡ prefix ++ rest → HasNoBreak rest
unbroken_rest line prefix rest p e = subst HasNoBreak (search (rules, common_steps)) (All-drop (λ b. b ≢ 10) (length prefix) (prefix ++ rest) (subst HasNoBreak e p))

-- A text has one list of words.
use Rattle.std.proofs.Common.{◌≡◌, ℕ, ◌<◌, ◌≤◌, true, false, List, [], ◌∷◌, ◌++◌, length, sym, refl, ap, ap₂, ◌∙◌, subst, append_assoc, length-append, arith}
use Rattle.std.specs.Char.{encode_utf8, is_whitespace, is_not_whitespace}
use Rattle.std.specs.Str.{encode_utf8_all, NonePass, NoCharPasses, EmptyOrStartsWithPassing}
use Rattle.std.proofs.lemmas.Bool.{both_ways, not-false}
use Rattle.std.proofs.lemmas.Str.{encode_same, length-encode, len_utf8_bounds}
use Rattle.plantext.specs.Taking.{StartsWithWord, SplitsInto}

-- a character takes bytes
some_bytes : (c : ℕ) → 1 ≤ length (encode_utf8 c)
some_bytes c = omega (arith, length-encode c, (len_utf8_bounds c).0)

no_bytes : (c : ℕ) (more : List ℕ) → ¬ ([] ≡ encode_utf8 c ++ more)
no_bytes c more e = omega (arith, some_bytes c, length-append (encode_utf8 c) more, ap length e)

-- the text begins with a character that is no white space
record Begins (text : List ℕ) : Type 0 where
  first : ℕ
  rest : List ℕ
  solid : is_whitespace first ≡ false
  is : text ≡ encode_utf8 first ++ rest

-- the text is empty, or begins with white space
abbrev Ends : List ℕ → Type 0
Ends text = (more : List ℕ) × EmptyOrStartsWithPassing is_whitespace text more

apart : (c d : ℕ) → is_whitespace c ≡ true → is_whitespace d ≡ false → ¬ (c ≡ d)
apart c d passes fails e = both_ways (is_whitespace d) fails (ap is_whitespace (sym e) ∙ passes)

white : (c : ℕ) → is_not_whitespace c ≡ false → is_whitespace c ≡ true
white c h = not-false (is_whitespace c) h

-- one character more of a gap or a word
more_chars : (c : ℕ) (cs text : List ℕ) → encode_utf8_all (c ∷ cs) ++ text ≡ encode_utf8 c ++ (encode_utf8_all cs ++ text)
more_chars c cs text = append_assoc (encode_utf8 c) (encode_utf8_all cs) text

-- ---- gaps

module _ (u v : List ℕ) (bu : Begins u) (bv : Begins v) where
  same_gap : (gs hs : List ℕ) → NonePass is_not_whitespace gs → NonePass is_not_whitespace hs → encode_utf8_all gs ++ u ≡ encode_utf8_all hs ++ v → u ≡ v
  same_gap [] [] ng nh e = e
  same_gap [] (h ∷ hs) ng nh e =
      let q = encode_same bu.first h bu.rest (encode_utf8_all hs ++ v) (sym bu.is ∙ e ∙ more_chars h hs v) in
      absurd (apart h bu.first (white h nh.0) bu.solid (sym q.0))
  same_gap (g ∷ gs) [] ng nh e =
      let q = encode_same g bv.first (encode_utf8_all gs ++ u) bv.rest (sym (more_chars g gs u) ∙ e ∙ bv.is) in
      absurd (apart g bv.first (white g ng.0) bv.solid q.0)
  same_gap (g ∷ gs) (h ∷ hs) ng nh e =
      let q = encode_same g h (encode_utf8_all gs ++ u) (encode_utf8_all hs ++ v) (sym (more_chars g gs u) ∙ e ∙ more_chars h hs v) in
      same_gap gs hs ng.1 nh.1 q.1

-- blank text has no word
no_word : (u : List ℕ) → Begins u → (cs gs : List ℕ) → NonePass is_not_whitespace cs → encode_utf8_all cs ≡ encode_utf8_all gs ++ u → ⊥
no_word u b [] [] nc e = no_bytes b.first b.rest (e ∙ b.is)
no_word u b [] (g ∷ gs) nc e = no_bytes g (encode_utf8_all gs ++ u) (e ∙ more_chars g gs u)
no_word u b (c ∷ cs) [] nc e =
    let q = encode_same c b.first (encode_utf8_all cs) b.rest (e ∙ b.is) in
    apart c b.first (white c nc.0) b.solid q.0
no_word u b (c ∷ cs) (g ∷ gs) nc e =
    let q = encode_same c g (encode_utf8_all cs) (encode_utf8_all gs ++ u) (e ∙ more_chars g gs u) in
    no_word u b cs gs nc.1 q.1

-- ---- words

-- a word does not go on where white space or nothing stands
not_on : (r : List ℕ) → Ends r → (d : ℕ) (more : List ℕ) → is_whitespace d ≡ false → ¬ (r ≡ encode_utf8 d ++ more)
not_on r ends d more fails e =
    let long : 0 < length r = omega (arith, ap length e, length-append (encode_utf8 d) more, some_bytes d) in
    let w = ends.1 long in
    let q = encode_same w.0 d ends.0 more (sym w.2 ∙ e) in
    apart w.0 d w.1 fails q.0

module _ (r s : List ℕ) (er : Ends r) (es : Ends s) where
  same_word : (cs ds : List ℕ) → NonePass is_whitespace cs → NonePass is_whitespace ds → encode_utf8_all cs ++ r ≡ encode_utf8_all ds ++ s
      → (encode_utf8_all cs ≡ encode_utf8_all ds) × (r ≡ s)
  same_word [] [] nc nd e = (refl, e)
  same_word [] (d ∷ ds) nc nd e = absurd (not_on r er d (encode_utf8_all ds ++ s) nd.0 (e ∙ more_chars d ds s))
  same_word (c ∷ cs) [] nc nd e = absurd (not_on s es c (encode_utf8_all cs ++ r) nc.0 (sym e ∙ more_chars c cs r))
  same_word (c ∷ cs) (d ∷ ds) nc nd e =
      let q = encode_same c d (encode_utf8_all cs ++ r) (encode_utf8_all ds ++ s) (sym (more_chars c cs r) ∙ e ∙ more_chars d ds s) in
      let p = same_word cs ds nc.1 nd.1 q.1 in
      (ap₂ (λ a b. encode_utf8 a ++ b) q.0 p.0, p.1)

-- ---- the words of a text

begins_from : (cs rest : List ℕ) → 0 < length (encode_utf8_all cs) → NonePass is_whitespace cs → Begins (encode_utf8_all cs ++ rest)
begins_from [] rest some none = absurd (omega (arith, some))
begins_from (c ∷ cs) rest some none = record { first = c; rest = encode_utf8_all cs ++ rest; solid = none.0; is = more_chars c cs rest }

module _ (text word rest : List ℕ) (w : StartsWithWord text word rest) where
  starts : Begins (word ++ rest)
  starts =
      let n = w.word_is_whole in
      subst (λ l. Begins (l ++ rest)) n.1 (begins_from n.0 rest (subst (λ l. 0 < length l) (sym n.1) w.nonempty) n.2)

  not_blank : ¬ NoCharPasses is_not_whitespace text
  not_blank blank =
      let g = w.gap_is_blank in
      no_word (word ++ rest) starts blank.0 g.0 blank.2 (blank.1 ∙ w.split ∙ ap (λ l. l ++ (word ++ rest)) (sym g.1))

  first_word : (other left : List ℕ) → (v : StartsWithWord text other left) → Begins (other ++ left) → (word ≡ other) × (rest ≡ left)
  first_word other left v begins =
      let g = w.gap_is_blank in
      let h = v.gap_is_blank in
      let m = w.word_is_whole in
      let n = v.word_is_whole in
      let behind = same_gap (word ++ rest) (other ++ left) starts begins g.0 h.0 g.2 h.2
      (ap (λ l. l ++ (word ++ rest)) g.1 ∙ sym w.split ∙ v.split ∙ ap (λ l. l ++ (other ++ left)) (sym h.1)) in
      let q = same_word rest left w.rest_starts_blank v.rest_starts_blank m.0 n.0 m.2 n.2
      (ap (λ l. l ++ rest) m.1 ∙ behind ∙ ap (λ l. l ++ left) (sym n.1)) in
      (sym m.1 ∙ q.0 ∙ n.1, q.1)

pub one_cut : (text : List ℕ) (ws vs : List (List ℕ)) → SplitsInto text ws → SplitsInto text vs → vs ≡ ws
one_cut text [] [] x y = refl
one_cut text [] (v ∷ vs) x y = absurd (not_blank text v y.0 y.1 x)
one_cut text (w ∷ ws) [] x y = absurd (not_blank text w x.0 x.1 y)
one_cut text (w ∷ ws) (v ∷ vs) x y =
    let q = first_word text w x.0 x.1 v y.0 y.1 (starts text v y.0 y.1) in
    ap₂ (λ a l. a ∷ l) (sym q.0) (one_cut x.0 ws vs x.2 (subst (λ r. SplitsInto r vs) (sym q.1) y.2))

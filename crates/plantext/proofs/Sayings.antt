-- What the words of printed lines say.
use Rattle.std.proofs.Common.{◌≡◌, ℕ, ◌^◌, ◌<◌, ◌≤◌, true, List, [], ◌∷◌, codes, decimal, length, sym, refl, ap, ◌∙◌, subst, arith}
use Rattle.std.specs.Str.Parse.{AllDigits, IsNumeral, digits_value, without_leading_plus}
use Rattle.std.proofs.lemmas.Bool.{le-leb, and_from}
use Rattle.std.proofs.lemmas.Fmt.{decimal_is_IsNumeral}
use Rattle.std.proofs.lemmas.Str.Parse.{digit_from_value, digit_at, without_leading_plus_none}
use Rattle.plan.specs.declared.handlers.Handler.{Handler}
use Rattle.plantext.specs.declared.notation.HandlerLine.{HandlerLine}
use Rattle.plantext.specs.declared.notation.Line.TheVariants.{Handler as AHandler, Join, CoreCode}
use Rattle.plantext.specs.Lines.{Writes, Says}
use Rattle.plantext.specs.RoundTrips.{FitsLine}
use Rattle.plantext.proofs.Words.{all_solid, solid, IsWord, AreWords}

-- ---- numbers

digits_solid : (ds : List ℕ) → AllDigits 10 ds → all_solid ds ≡ true
digits_solid [] all = refl
digits_solid (c ∷ cs) all =
    let q = digit_from_value c all.0 in
    and_from (solid c) (all_solid cs) (and_from _ _ (le-leb 48 c q.0) (le-leb c 122 (omega (arith, q.1)))) (digits_solid cs all.1)

module _ (n : ℕ) (small : n < 2 ^ 16) where
  numeral : IsNumeral 10 (decimal n) × (digits_value 10 (decimal n) ≡ n)
  numeral = decimal_is_IsNumeral n (omega (arith, small))

  pub number_word : IsWord (decimal n)
  number_word = record { some = numeral.0.0; bytes = digits_solid (decimal n) numeral.0.1 }

  pub writes : Writes (decimal n) n
  writes =
      let first = digit_at (decimal n) 0 numeral.0.1 numeral.0.0 in
      let plain : without_leading_plus (decimal n) ≡ decimal n = without_leading_plus_none (decimal n) (λ e. omega (arith, e, first.0)) in
      record {
        digits = subst (IsNumeral 10) (sym plain) numeral.0;
        fits = subst (λ ds. digits_value 10 ds < 2 ^ 16) (sym plain) (omega (arith, numeral.1, small));
        is = sym (ap (digits_value 10) plain ∙ numeral.1);
      }

-- ---- lines

abbrev pub core_words : ℕ → ℕ → List (List ℕ)
core_words c code = codes "core" ∷ decimal c ∷ codes "code" ∷ decimal code ∷ []

abbrev pub handler_words : Handler → List (List ℕ)
handler_words h =
    codes "handler" ∷ codes "core" ∷ decimal h.core ∷ codes "period" ∷ decimal h.period ∷ codes "offset" ∷ decimal h.offset
    ∷ codes "shortest" ∷ decimal h.shortest ∷ codes "longest" ∷ decimal h.longest ∷ []

abbrev pub join_words : ℕ → ℕ → List (List ℕ)
join_words a b = codes "join" ∷ codes "first" ∷ decimal a ∷ codes "second" ∷ decimal b ∷ []

-- the word of a key or of a kind of line
key : (w : List ℕ) → 0 < length w → all_solid w ≡ true → IsWord w
key w l h = record { some = l; bytes = h }

module _ (c code : ℕ) (fits_c : c < 2 ^ 16) (fits_code : code < 2 ^ 16) where
  pub core_are_words : AreWords (core_words c code)
  core_are_words = (key (codes "core") (omega arith) refl, (number_word c fits_c, (key (codes "code") (omega arith) refl, (number_word code fits_code, tt))))

  pub core_says : Says (core_words c code) (CoreCode record { core = c; code = code })
  core_says =
      (_, record { word = decimal c; starts = refl; writes = writes c fits_c }, (_, record { word = decimal code; starts = refl; writes = writes code fits_code }, refl))

module _ (h : Handler) (fits : FitsLine h) (low : h.core ≤ 8) where
  abbrev pub line_of : HandlerLine
  line_of = record { core = h.core; period = h.period; offset = h.offset; shortest = h.shortest; longest = h.longest }

  pub handler_are_words : AreWords (handler_words h)
  handler_are_words = (
    key (codes "handler") (omega arith) refl,
    (
      key (codes "core") (omega arith) refl,
      (
        number_word h.core (omega (arith, low)),
        (
          key (codes "period") (omega arith) refl,
          (
            number_word h.period fits.period,
            (
              key (codes "offset") (omega arith) refl,
              (
                number_word h.offset fits.offset,
                (key (codes "shortest") (omega arith) refl, (number_word h.shortest fits.shortest, (key (codes "longest") (omega arith) refl, (number_word h.longest fits.longest, tt)))),
              ),
            ),
          ),
        ),
      ),
    ),
  )

  pub handler_says : Says (handler_words h) (AHandler line_of)
  handler_says = (
    _,
    refl,
    (
      _,
      record { word = decimal h.core; starts = refl; writes = writes h.core (omega (arith, low)) },
      (
        _,
        record { word = decimal h.period; starts = refl; writes = writes h.period fits.period },
        (
          _,
          record { word = decimal h.offset; starts = refl; writes = writes h.offset fits.offset },
          (
            _,
            record { word = decimal h.shortest; starts = refl; writes = writes h.shortest fits.shortest },
            (_, record { word = decimal h.longest; starts = refl; writes = writes h.longest fits.longest }, refl),
          ),
        ),
      ),
    ),
  )

module _ (a b : ℕ) (fits_a : a < 2 ^ 16) (fits_b : b < 2 ^ 16) where
  pub join_are_words : AreWords (join_words a b)
  join_are_words = (
    key (codes "join") (omega arith) refl,
    (
      key (codes "first") (omega arith) refl,
      (
        number_word a fits_a,
        (key (codes "second") (omega arith) refl, (number_word b fits_b, tt)),
      ),
    ),
  )

  pub join_says : Says (join_words a b) (Join record { first = a; second = b })
  join_says = (
    _,
    refl,
    (
      _,
      record { word = decimal a; starts = refl; writes = writes a fits_a },
      (_, record { word = decimal b; starts = refl; writes = writes b fits_b }, refl),
    ),
  )

use Rattle.std.proofs.Common.{inl, inr}
use Rattle.plantext.proofs.Fields.{handed}
use Rattle.plantext.proofs.notation.handler.Goals as goal

pub returns-in_err-shortest : goal.returns-in_err-shortest
returns-in_err-shortest c =
    handed _ _ _ c.in_err-shortest.field-0.0 c.from_residual-in_err-shortest.ensures.1
    (inr (_, (_, c.in_ok-core.ensures, inr (_, (_, c.in_ok-period.ensures, inr (_, (_, c.in_ok-offset.ensures, inl c.in_err-shortest.ensures)))))))

pub returns-in_err-longest : goal.returns-in_err-longest
returns-in_err-longest c =
    handed _ _ _ c.in_err-longest.field-0.0 c.from_residual-in_err-longest.ensures.1
    (inr (
      _,
      (
        _,
        c.in_ok-core.ensures,
        inr (
          _,
          (
            _,
            c.in_ok-period.ensures,
            inr (
              _,
              (
                _,
                c.in_ok-offset.ensures,
                inr (_, (_, c.in_ok-shortest.ensures, inl c.in_err-longest.ensures)),
              ),
            ),
          ),
        ),
      ),
    ))

pub returns-in_err-end : goal.returns-in_err-end
returns-in_err-end c =
    handed _ _ _ c.in_err-end.field-0.0 c.from_residual-in_err-end.ensures.1
    (inr (
      _,
      (
        _,
        c.in_ok-core.ensures,
        inr (
          _,
          (
            _,
            c.in_ok-period.ensures,
            inr (
              _,
              (
                _,
                c.in_ok-offset.ensures,
                inr (_, (_, c.in_ok-shortest.ensures, inr (_, (_, c.in_ok-longest.ensures, c.in_err-end.ensures)))),
              ),
            ),
          ),
        ),
      ),
    ))

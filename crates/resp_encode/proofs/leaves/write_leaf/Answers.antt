use Rattle.std.proofs.Common.{rules, refl}
use Rattle.resp_encode.proofs.AppendedTexts.{appends_refused}
use Rattle.resp_encode.proofs.FlatLeaves.{refused_exit}
use Rattle.resp_encode.proofs.leaves.write_leaf.Goals as goal

pub returns-in_err-text_in-in-SimpleString : goal.returns-in_err-text_in-in-SimpleString
returns-in_err-text_in-in-SimpleString c = λ d. refused_exit _ _ _ _ c.from_residual.ensures.1
    c.in_err-text_in-in-SimpleString.ensures.text.0 (rw
    (c.in-SimpleString.is, c.in_err-text_in-in-SimpleString.ensures.text.1) refl)

pub returns-in_err-text_in-in-ServerError : goal.returns-in_err-text_in-in-ServerError
returns-in_err-text_in-in-ServerError c = λ d. refused_exit _ _ _ _
    c.from_residual-in_err-text_in-in-ServerError.ensures.1
    c.in_err-text_in-in-ServerError.ensures.text.0 (rw
    (c.in-ServerError.is, c.in_err-text_in-in-ServerError.ensures.text.1) refl)

pub returns-in_err-text_in-in-Double : goal.returns-in_err-text_in-in-Double
returns-in_err-text_in-in-Double c = λ d. refused_exit _ _ _ _ c.from_residual-in_err-text_in-in-Double.ensures.1
    c.in_err-text_in-in-Double.ensures.text.0 (rw (c.in-Double.is, c.in_err-text_in-in-Double.ensures.text.1) refl)

pub returns-in_err-text_in-in-VerbatimString : goal.returns-in_err-text_in-in-VerbatimString
returns-in_err-text_in-in-VerbatimString c = λ d. refused_exit _ _ _ _
    c.from_residual-in_err-text_in-in-VerbatimString.ensures.1
    c.in_err-text_in-in-VerbatimString.ensures.text.0 (rw
    (c.in-VerbatimString.is, c.in_err-text_in-in-VerbatimString.ensures.text.1) refl)

pub returns-in_default : goal.returns-in_default
returns-in_default c = λ d. appends_refused _ _ (search rules)

use Rattle.std.proofs.Common.{ℕ, [], Some, refl, sym, ap, ◌∙◌}
use Rattle.resp_value.specs.declared.value.Value.{Value}
use Rattle.resp_parse.proofs.Prefixes.{law_of_prefixes}
use Rattle.resp_encode.specs.FlatLaw.{LawOfFlatReplies}
use Rattle.resp_encode.proofs.EncodedSpells.{encoding-spells}
use Rattle.resp_encode.proofs.FlatWires.{same-spelling}
use Rattle.resp_parse.proofs.ReadableValues.{spelled-readable}
use Rattle.resp_encode.proofs.laws.law_of_flat_replies.Goals as goal

law : (d : ℕ) (v w : Value) → LawOfFlatReplies d v w
law d v w = λ b c e f tokens text.
    let same = same-spelling d v w b c e f tokens text in
    ((law_of_prefixes d b [] b []).values v w refl (encoding-spells d b v e)
    (encoding-spells d b w (f ∙ ap Some (sym same)))).1

pub returns : goal.returns
returns c = record { law = law; readable = spelled-readable }

use Rattle.std.proofs.Common.{◌≡◌, ℕ, [], is_some, true, refl, sym}
use Rattle.resp_value.specs.declared.value.Value.{Value}
use Rattle.resp_parse.proofs.Prefixes.{law_of_prefixes}
use Rattle.resp_encode.specs.Encoding.{encoding, LawOfEncoding}
use Rattle.resp_encode.proofs.EncodedSpells.{encoding-spells}
use Rattle.resp_encode.proofs.SpelledAreEncoded.{spelled-encoded}
use Rattle.resp_encode.proofs.laws.law_of_encoding.Goals as goal

law : (d : ℕ) (v : Value) → LawOfEncoding d v
law d v = record {
  spells = λ b e. encoding-spells d b v e;
  only = λ b w e g. sym ((law_of_prefixes d b [] b []).values v w refl (encoding-spells d b v e) g).1;
  none = λ e s b g. let h : is_some (encoding d v) ≡ true = spelled-encoded d b v g s in cc;
}

pub returns : goal.returns
returns c = record { law = law }

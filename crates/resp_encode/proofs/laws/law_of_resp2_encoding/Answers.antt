use Rattle.std.proofs.Common.{ℕ, [], refl, sym}
use Rattle.resp_value.specs.declared.value.Value.{Value}
use Rattle.resp_parse.proofs.Prefixes.{law_of_prefixes}
use Rattle.resp_encode.specs.Resp2.{resp2_of}
use Rattle.resp_encode.specs.Resp2Encoding.{LawOfResp2Encoding}
use Rattle.resp_encode.proofs.Resp2Spells.{resp2-spells, resp2-starts}
use Rattle.resp_encode.proofs.laws.law_of_resp2_encoding.Goals as goal

law : (d : ℕ) (v : Value) → LawOfResp2Encoding d v
law d v = record {
  spells = λ b e. resp2-spells d b v e;
  only = λ b w e g. sym ((law_of_prefixes d b [] b []).values (resp2_of v) w refl (resp2-spells d b v e) g).1;
  starts = λ b e. resp2-starts d b v e;
}

pub returns : goal.returns
returns c = record { law = law }

use Rattle.std.proofs.Common.{arith}
use Rattle.std.specs.Int.{w8, w16, w32, w64, w128}
use Rattle.resp_laws.proofs.ReadBack as back
use Rattle.resp_laws.proofs.conversions.law_of_written_scalars.Goals as goal

pub returns : goal.returns
returns c = record {
  of_i8 = back.signed w8;
  of_i16 = back.signed w16;
  of_i32 = back.signed w32;
  of_i64 = back.signed w64;
  of_i128 = back.signed w128;
  of_isize = back.signed w64;
  of_u8 = back.unsigned 8 (λ n fits. omega (arith, fits));
  of_u16 = back.unsigned 16 (λ n fits. omega (arith, fits));
  of_u32 = back.unsigned 32 (λ n fits. omega (arith, fits));
  of_u64 = back.unsigned 64 (λ n fits. omega (arith, fits));
  of_u128 = back.unsigned 128 (λ n fits. omega (arith, fits));
  of_usize = back.unsigned 64 (λ n fits. omega (arith, fits));
  of_bool = back.truth;
  of_string = back.string;
  of_bytes = back.byte_list;
}

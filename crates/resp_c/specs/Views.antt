-- What a view shows.
use Rattle.std.specs.Prelude.{◌≡◌, length}
use Rattle.std.specs.Vec.{vec_ptr}
use Rattle.resp_flat.specs.declared.flat_reply.FlatReply.{FlatReply}
use Rattle.resp_c.specs.declared.view.RespView.{RespView}

-- it leads to the reply's tokens and to its text, all of them
pub record Shows (view : RespView) (reply : FlatReply) : Type 0 where
  pub tokens : view.tokens ≡ vec_ptr reply.tokens
  pub token_count : view.token_count ≡ length reply.tokens.items
  pub text : view.text ≡ vec_ptr reply.text
  pub text_size : view.text_size ≡ length reply.text.items

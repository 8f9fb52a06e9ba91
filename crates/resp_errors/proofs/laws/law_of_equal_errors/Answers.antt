use Rattle.std.proofs.Common.{◌≡◌, true, refl, ap, subst, ◌∙◌, [], None}
use Rattle.resp_errors.specs.declared.redis_error.RedisError.{RedisError}
use Rattle.resp_errors.specs.declared.redis_error.RedisError.TheVariants as form
use Rattle.resp_errors.specs.contracts.redis_error.RedisErrorPartialEq.TheImpl as errors
use Rattle.resp_errors.specs.contracts.redis_error.RedisErrorEq.TheImpl.Laws as equal_errors
use Rattle.resp_errors.specs.contracts.kinds.ErrorKindEq.TheImpl.Laws as kind_laws
use Rattle.resp_errors.specs.Equality.{without_words}
use Rattle.resp_errors.specs.contracts.equality.ErrorKindStructuralEq.TheImpl.Laws as kinds
use Rattle.resp_errors.specs.contracts.equality.IoKindStructuralEq.TheImpl.Laws as io_kinds
use Rattle.resp_errors.specs.contracts.equality.ParsingErrorStructuralEq.TheImpl.Laws as parsing
use Rattle.resp_errors.specs.contracts.equality.ServerErrorStructuralEq.TheImpl.Laws as server
use Rattle.resp_containers.specs.lemmas.Equality.{same_lists, same_numbers, same_pairs}
use Rattle.resp_errors.proofs.laws.law_of_equal_errors.Goals as goal

sound : (a b : RedisError) → errors.ghosts.eq a b ≡ true → without_words a ≡ without_words b
sound (form.General k t d) (form.General k' t' d') h = ap (λ kind. form.General kind [] None)
    (kinds.structural-law k k' h)
sound (form.Io k) (form.Io k') h = ap form.Io (io_kinds.structural-law k k' h)
sound (form.Parse e) (form.Parse e') h = ap form.Parse (parsing.structural-law e e' h)
sound (form.Server e) (form.Server e') h = ap form.Server (server.structural-law e e' h)
sound (form.Pipeline es) (form.Pipeline es') h = ap form.Pipeline
    (same_lists (same_pairs same_numbers server.structural-law) es es' h)
sound (form.Aborted es) (form.Aborted es') h = ap form.Aborted
    (same_lists (same_pairs same_numbers server.structural-law) es es' h)
sound form.OutOfMemory form.OutOfMemory h = refl
sound _ _ h = cc

own : (a : RedisError) → errors.ghosts.eq a (without_words a) ≡ true
own (form.General k t d) = kind_laws.laws-law.refl k
own (form.Io k) = equal_errors.laws-law.refl (form.Io k)
own (form.Parse e) = equal_errors.laws-law.refl (form.Parse e)
own (form.Server e) = equal_errors.laws-law.refl (form.Server e)
own (form.Pipeline es) = equal_errors.laws-law.refl (form.Pipeline es)
own (form.Aborted es) = equal_errors.laws-law.refl (form.Aborted es)
own form.OutOfMemory = refl

complete : (a b : RedisError) → without_words a ≡ without_words b → errors.ghosts.eq a b ≡ true
complete a b e =
    let laws = equal_errors.laws-law in
    let across : errors.ghosts.eq a (without_words b) ≡ true = subst (λ x. errors.ghosts.eq a x ≡ true) e (own a) in
    laws.congr a (without_words b) b across ∙ (laws.symm (without_words b) b ∙ own b)

pub returns : goal.returns
returns c = λ a b. (sound a b, complete a b)

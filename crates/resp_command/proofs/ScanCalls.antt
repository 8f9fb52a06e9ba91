-- What a request gives a scan, from what it was answered with.
use Rattle.std.proofs.Common.{◌≡◌, ◌≢◌, ◌++◌, ℕ, List, true, false, refl, sym, subst, Result, Ok, Err, Some}
use Rattle.std.specs.Bool.{MatchBool}
use Rattle.resp_errors.specs.declared.parsing_error.ParsingError.{ParsingError}
use Rattle.resp_errors.specs.declared.parsing_error.ParsingError.TheVariants as parsing
use Rattle.resp_errors.specs.declared.redis_error.RedisError.{RedisError}
use Rattle.resp_errors.specs.declared.redis_error.RedisError.TheVariants.{OutOfMemory}
use Rattle.resp_errors.specs.Errors.{error_of_parsing}
use Rattle.resp_value.specs.declared.value.Value.{Value}
use Rattle.resp_value.specs.Views.{is_cursor}
use Rattle.resp_from.specs.Conversion.{Converts, ConvertsCall, Decides, RefusesIf}
use Rattle.resp_from.proofs.Conversions.{RefusesIf-along}
use Rattle.resp_command.specs.Call.{CommandCall, needed}
use Rattle.resp_command.specs.Command.{Command}
use Rattle.resp_command.specs.Connection.{push_room, Connection}
use Rattle.resp_command.specs.Cursors.{with_cursor}
use Rattle.resp_command.specs.ScanReplies.{Given, IsBatch, IsFirstPage, IsListOf, IsPage, ReadsPage}
use Rattle.resp_command.specs.Scans.{FirstRequest, LaterRequest, SendsPacked, scan_request}
use Rattle.resp_command.specs.declared.batch.Batch.{Batch}
use Rattle.resp_command.proofs.OneTaking.{takes_one_thing}
use Rattle.resp_command.proofs.PackedReadsBack.{packed_reads_only}

-- a refused conversion as a refused call
pub call_refused : {X : Type 0} (Fits : X → Type 0) (e : ParsingError) → RefusesIf e ((x : X) → Fits x → ⊥)
    → ConvertsCall Fits (Err (error_of_parsing e))
call_refused Fits (parsing.Described text) h = (tt, h)
call_refused Fits (parsing.Fault fault) h = absurd h
call_refused Fits parsing.OutOfMemory h = tt

abbrev NotMemory : {X : Type 0} → Result X RedisError → Type 0
NotMemory r = r ≢ Err OutOfMemory

-- the same of a reply that was read without taking memory
pub read_refused : {X : Type 0} (Fits : X → Type 0) (e : ParsingError) → Decides Fits (Err e)
    → ConvertsCall Fits (Err (error_of_parsing e)) × NotMemory {X = X} (Err (error_of_parsing e))
read_refused Fits (parsing.Described text) h = ((tt, h.1), λ e. cc)
read_refused Fits (parsing.Fault fault) h = absurd h.0
read_refused Fits parsing.OutOfMemory h = absurd h.0

-- ---- the batch of a page

module _ {X : Type 0} (n : ℕ) (Of : Value → X → Type 0) (reply : Value) where
  pub no_page_batch : (e : ParsingError) → Decides (ReadsPage n Of reply) (Err e)
      → Converts (IsBatch IsPage n Of reply) (Err e)
  no_page_batch (parsing.Described text) h = λ batch k. h.1
      (record { cursor = batch.cursor; results = Some batch.results }) (record {
        items = k.items;
        page = k.page;
        results = k.results;
      })
  no_page_batch (parsing.Fault fault) h = absurd h.0
  no_page_batch parsing.OutOfMemory h = absurd h.0

-- ---- the first page

page_first : (reply : Value) (cursor : ℕ) (items : List Value) → is_cursor reply ≡ true → IsPage reply cursor items
    → IsFirstPage reply cursor items
page_first reply cursor items is h = subst
    (λ t. MatchBool t (IsPage reply cursor items) ((cursor ≡ 0) × IsListOf reply items)) (sym is) h

first_page : (reply : Value) (cursor : ℕ) (items : List Value) → is_cursor reply ≡ true → IsFirstPage reply cursor items
    → IsPage reply cursor items
first_page reply cursor items is h = subst
    (λ t. MatchBool t (IsPage reply cursor items) ((cursor ≡ 0) × IsListOf reply items)) is h

pub list_first : (reply : Value) (cursor : ℕ) (items : List Value) → is_cursor reply ≡ false → cursor ≡ 0
    → IsListOf reply items → IsFirstPage reply cursor items
list_first reply cursor items is zero h = subst
    (λ t. MatchBool t (IsPage reply cursor items) ((cursor ≡ 0) × IsListOf reply items)) (sym is) (zero, h)

pub batch_first : {X : Type 0} (n : ℕ) (Of : Value → X → Type 0) (reply : Value) (r : Result (Batch X) ParsingError)
    → is_cursor reply ≡ true → Converts (IsBatch IsPage n Of reply) r → Converts (IsBatch IsFirstPage n Of reply) r
batch_first n Of reply (Ok batch) is h = record {
  items = h.items;
  page = page_first reply batch.cursor h.items is h.page;
  results = h.results;
}
batch_first n Of reply (Err e) is h = RefusesIf-along e (λ none batch k. none batch (record {
  items = k.items;
  page = first_page reply batch.cursor k.items is k.page;
  results = k.results;
})) h

-- ---- requests

module _ {X : Type 0} (n : ℕ) (Of : Value → X → Type 0) (old new : Connection) (c : Command) where
  pub first_failed : (answer : Result Value RedisError) (e : RedisError) → answer ≡ Err e
      → CommandCall old new c answer (λ reply. answer ≡ Ok reply) → FirstRequest n Of old new c (Err e)
  first_failed answer e is h = record {
    answer = answer;
    reads_only = packed_reads_only c.args;
    takes_one = λ link arrived. takes_one_thing link.limits (push_room link) (needed c) (link.received ++ arrived);
    call = h;
    gives = rw is refl;
  }

  pub first_read : (answer : Result Value RedisError) (reply : Value) (given : Result (Batch X) RedisError)
      → answer ≡ Ok reply → CommandCall old new c answer (λ v. answer ≡ Ok v)
      → ConvertsCall (IsBatch IsFirstPage n Of reply) given → FirstRequest n Of old new c given
  first_read answer reply given is h read = record {
    answer = answer;
    reads_only = packed_reads_only c.args;
    takes_one = λ link arrived. takes_one_thing link.limits (push_room link) (needed c) (link.received ++ arrived);
    call = h;
    gives = rw is read;
  }

  module _ (u : ℕ) where
    pub later_failed : (answer : Result Value RedisError) (e : RedisError) → answer ≡ Err e
        → SendsPacked old new (scan_request c u) answer → LaterRequest n Of old new c u (Err e)
    later_failed answer e is h = record {
      answer = answer;
      reads_only = packed_reads_only (with_cursor u c).args;
      takes_one = λ link arrived. takes_one_thing link.limits (push_room link) 1 (link.received ++ arrived);
      sends = h;
      gives = rw is refl;
    }

    pub later_read : (answer : Result Value RedisError) (reply : Value) (given : Given X) → answer ≡ Ok reply
        → SendsPacked old new (scan_request c u) answer → ConvertsCall (ReadsPage n Of reply) given
        × (given ≢ Err OutOfMemory) → LaterRequest n Of old new c u given
    later_read answer reply given is h read = record {
      answer = answer;
      reads_only = packed_reads_only (with_cursor u c).args;
      takes_one = λ link arrived. takes_one_thing link.limits (push_room link) 1 (link.received ++ arrived);
      sends = h;
      gives = rw is read;
    }

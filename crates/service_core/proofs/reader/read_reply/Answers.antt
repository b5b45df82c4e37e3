use Rattle.std.proofs.Common.{◌<◌, ◌≤◌, ◌^◌, ◌++◌, length, arith, inl, inr}
use Rattle.std.proofs.lemmas.Result.{err_from_is_err_and}
use Rattle.service_model.specs.Words.{u64_bytes}
use Rattle.service_model.specs.Encoding.{length_prefixed, encoded_reply}
use Rattle.service_core.specs.Readings.{Begins}
use Rattle.service_core.proofs.Replies.{IsFit, behind_client, behind_time, behind_number}
use Rattle.service_core.proofs.Encoded.{failed, passes}
use Rattle.service_core.proofs.reader.read_reply.Goals as goal

pub returns-in_err-time : goal.returns-in_err-time
returns-in_err-time c =
    let p = err_from_is_err_and c.from_residual-in_err-time.result c.from_residual-in_err-time.ensures.1 in
    let client = c.in_ok-client.ensures in
    let then : Begins encoded_reply (IsFit c.args.taken) c.args.bytes.now → Begins u64_bytes (λ n. n < 2 ^ 64) c.in_ok-client.rest.now = λ begins.
    let y = behind_client c.args.taken c.in_ok-client.client c.args.bytes.now c.in_ok-client.rest.now client.0 client.1 begins in
    (y.0.time, u64_bytes y.0.number.0 ++ (length_prefixed y.0.result ++ y.1), y.2.time_in_range, y.3) in
    failed _ encoded_reply (IsFit c.args.taken) c.args.bytes.now _ p.0 c.in_err-time.field-0.0 p.1 p.2
    (passes u64_bytes (λ n. n < 2 ^ 64) c.in_ok-client.rest.now encoded_reply (IsFit c.args.taken) c.args.bytes.now c.in_err-time.field-0.0 then c.in_err-time.ensures)

pub returns-in_err-number : goal.returns-in_err-number
returns-in_err-number c =
    let p = err_from_is_err_and c.from_residual-in_err-number.result c.from_residual-in_err-number.ensures.1 in
    let client = c.in_ok-client.ensures in
    let time = c.in_ok-time.ensures in
    let few : c.args.taken < 2 ^ 64 = omega (arith, c.ranges.taken.fits) in
    let then : Begins encoded_reply (IsFit c.args.taken) c.args.bytes.now → Begins u64_bytes (λ n. n < 2 ^ 64) c.in_ok-time.rest.now = λ begins.
    let x = behind_client c.args.taken c.in_ok-client.client c.args.bytes.now c.in_ok-client.rest.now client.0 client.1 begins in
    let y = behind_time c.args.taken c.in_ok-time.time c.in_ok-client.rest.now c.in_ok-time.rest.now time.0 time.1 x in
    (y.0.number.0, length_prefixed y.0.result ++ y.1, omega (arith, y.2.not_later, few), y.3) in
    failed _ encoded_reply (IsFit c.args.taken) c.args.bytes.now _ p.0 c.in_err-number.field-0.0 p.1 p.2
    (passes u64_bytes (λ n. n < 2 ^ 64) c.in_ok-time.rest.now encoded_reply (IsFit c.args.taken) c.args.bytes.now c.in_err-number.field-0.0 then c.in_err-number.ensures)

pub returns-then-number-eq0 : goal.returns-then-number-eq0
returns-then-number-eq0 c = λ begins.
    let client = c.in_ok-client.ensures in
    let time = c.in_ok-time.ensures in
    let number = c.in_ok-number.ensures in
    let few : c.args.taken < 2 ^ 64 = omega (arith, c.ranges.taken.fits) in
    let x = behind_client c.args.taken c.in_ok-client.client c.args.bytes.now c.in_ok-client.rest.now client.0 client.1 begins in
    let y = behind_time c.args.taken c.in_ok-time.time c.in_ok-client.rest.now c.in_ok-time.rest.now time.0 time.1 x in
    let z = behind_number c.args.taken c.in_ok-number.number c.in_ok-time.rest.now c.in_ok-number.rest.now few number.0 number.1 y in
    elim c.then-number-eq0.either [
      | inl none ↦ omega (arith, none, z.4, z.2.not_null)
      | inr late ↦ omega (arith, late.1, z.4, z.2.not_later)
    ]

pub returns-in_err-inside : goal.returns-in_err-inside
returns-in_err-inside c =
    let p = err_from_is_err_and c.from_residual-in_err-inside.result c.from_residual-in_err-inside.ensures.1 in
    let client = c.in_ok-client.ensures in
    let time = c.in_ok-time.ensures in
    let number = c.in_ok-number.ensures in
    let few : c.args.taken < 2 ^ 64 = omega (arith, c.ranges.taken.fits) in
    let then : Begins encoded_reply (IsFit c.args.taken) c.args.bytes.now → Begins length_prefixed (λ inside. length inside ≤ 265) c.in_ok-number.rest.now = λ begins.
    let x = behind_client c.args.taken c.in_ok-client.client c.args.bytes.now c.in_ok-client.rest.now client.0 client.1 begins in
    let y = behind_time c.args.taken c.in_ok-time.time c.in_ok-client.rest.now c.in_ok-time.rest.now time.0 time.1 x in
    let z = behind_number c.args.taken c.in_ok-number.number c.in_ok-time.rest.now c.in_ok-number.rest.now few number.0 number.1 y in
    (z.0.result, z.1, z.2.result_in_range, z.3) in
    failed _ encoded_reply (IsFit c.args.taken) c.args.bytes.now _ p.0 c.in_err-inside.field-0.0 p.1 p.2
    (passes length_prefixed (λ inside. length inside ≤ 265) c.in_ok-number.rest.now encoded_reply (IsFit c.args.taken) c.args.bytes.now c.in_err-inside.field-0.0 then c.in_err-inside.ensures)

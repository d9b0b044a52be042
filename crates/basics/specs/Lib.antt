-- What several crates speak of, and none of them owns.
--     Tests     an operation's tests in order, each with its number
--     Refusals  every refusal, and its number
--     Below     some number below n passes a test, and how many do
--     Bytes     numbers in bytes, high byte first
--     Written   bytes written into a lent buffer
--     Writers   the same by a writer, which has the buffer and the place
pub mod Tests
pub mod Refusals
pub mod Below
pub mod Bytes
pub mod Written
pub mod Writers

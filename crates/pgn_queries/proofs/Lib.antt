-- what comes next of a client's bytes, as it is read
pub mod ClientLaws
-- what a reader of queries gives
pub mod QueryLaws
-- bytes have one reading
pub mod OneLaws
-- each list of bytes has a reading
pub mod EachLaws

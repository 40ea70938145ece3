-- what a desk has done
pub mod Serving
-- how each part of a turn carries that on
pub mod Working
-- desks side by side
pub mod Desks
-- desks as workers
pub mod Workers

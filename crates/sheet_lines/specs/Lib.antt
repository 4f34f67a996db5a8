-- What stands at a place of a sheet: for the contracts of READ's steps, not for its promise.
pub mod Cursor

-- `aes_sub::sub` meets its contract. Assumes nothing.
use Rattle.aes.specs.Field.{xtime, times, mul, powers, inverse, turn, affine, sbox}
use Rattle.aes_arms.proofs.Arms.{sub-arm}
use Rattle.std.proofs.Common.{◌≡◌, ◌+◌, arith}
use Rattle.aes_sub.proofs.sub.Goals as goal

pub returns-in-256 : goal.returns-in-256
unfolding xtime times mul powers inverse turn affine sbox
returns-in-256 c = sub-arm 256 _ c.in-256.is tt

pub returns-in-257 : goal.returns-in-257
unfolding xtime times mul powers inverse turn affine sbox
returns-in-257 c = sub-arm 257 _ c.in-257.is tt

pub returns-in-258 : goal.returns-in-258
unfolding xtime times mul powers inverse turn affine sbox
returns-in-258 c = sub-arm 258 _ c.in-258.is tt

pub returns-in-259 : goal.returns-in-259
unfolding xtime times mul powers inverse turn affine sbox
returns-in-259 c = sub-arm 259 _ c.in-259.is tt

pub returns-in-260 : goal.returns-in-260
unfolding xtime times mul powers inverse turn affine sbox
returns-in-260 c = sub-arm 260 _ c.in-260.is tt

pub returns-in-261 : goal.returns-in-261
unfolding xtime times mul powers inverse turn affine sbox
returns-in-261 c = sub-arm 261 _ c.in-261.is tt

pub returns-in-262 : goal.returns-in-262
unfolding xtime times mul powers inverse turn affine sbox
returns-in-262 c = sub-arm 262 _ c.in-262.is tt

pub returns-in-263 : goal.returns-in-263
unfolding xtime times mul powers inverse turn affine sbox
returns-in-263 c = sub-arm 263 _ c.in-263.is tt

pub returns-in-264 : goal.returns-in-264
unfolding xtime times mul powers inverse turn affine sbox
returns-in-264 c = sub-arm 264 _ c.in-264.is tt

pub returns-in-265 : goal.returns-in-265
unfolding xtime times mul powers inverse turn affine sbox
returns-in-265 c = sub-arm 265 _ c.in-265.is tt

pub returns-in-266 : goal.returns-in-266
unfolding xtime times mul powers inverse turn affine sbox
returns-in-266 c = sub-arm 266 _ c.in-266.is tt

pub returns-in-267 : goal.returns-in-267
unfolding xtime times mul powers inverse turn affine sbox
returns-in-267 c = sub-arm 267 _ c.in-267.is tt

pub returns-in-268 : goal.returns-in-268
unfolding xtime times mul powers inverse turn affine sbox
returns-in-268 c = sub-arm 268 _ c.in-268.is tt

pub returns-in-269 : goal.returns-in-269
unfolding xtime times mul powers inverse turn affine sbox
returns-in-269 c = sub-arm 269 _ c.in-269.is tt

pub returns-in-270 : goal.returns-in-270
unfolding xtime times mul powers inverse turn affine sbox
returns-in-270 c = sub-arm 270 _ c.in-270.is tt

pub returns-in-271 : goal.returns-in-271
unfolding xtime times mul powers inverse turn affine sbox
returns-in-271 c = sub-arm 271 _ c.in-271.is tt

pub returns-in-272 : goal.returns-in-272
unfolding xtime times mul powers inverse turn affine sbox
returns-in-272 c = sub-arm 272 _ c.in-272.is tt

pub returns-in-273 : goal.returns-in-273
unfolding xtime times mul powers inverse turn affine sbox
returns-in-273 c = sub-arm 273 _ c.in-273.is tt

pub returns-in-274 : goal.returns-in-274
unfolding xtime times mul powers inverse turn affine sbox
returns-in-274 c = sub-arm 274 _ c.in-274.is tt

pub returns-in-275 : goal.returns-in-275
unfolding xtime times mul powers inverse turn affine sbox
returns-in-275 c = sub-arm 275 _ c.in-275.is tt

pub returns-in-276 : goal.returns-in-276
unfolding xtime times mul powers inverse turn affine sbox
returns-in-276 c = sub-arm 276 _ c.in-276.is tt

pub returns-in-277 : goal.returns-in-277
unfolding xtime times mul powers inverse turn affine sbox
returns-in-277 c = sub-arm 277 _ c.in-277.is tt

pub returns-in-278 : goal.returns-in-278
unfolding xtime times mul powers inverse turn affine sbox
returns-in-278 c = sub-arm 278 _ c.in-278.is tt

pub returns-in-279 : goal.returns-in-279
unfolding xtime times mul powers inverse turn affine sbox
returns-in-279 c = sub-arm 279 _ c.in-279.is tt

pub returns-in-280 : goal.returns-in-280
unfolding xtime times mul powers inverse turn affine sbox
returns-in-280 c = sub-arm 280 _ c.in-280.is tt

pub returns-in-281 : goal.returns-in-281
unfolding xtime times mul powers inverse turn affine sbox
returns-in-281 c = sub-arm 281 _ c.in-281.is tt

pub returns-in-282 : goal.returns-in-282
unfolding xtime times mul powers inverse turn affine sbox
returns-in-282 c = sub-arm 282 _ c.in-282.is tt

pub returns-in-283 : goal.returns-in-283
unfolding xtime times mul powers inverse turn affine sbox
returns-in-283 c = sub-arm 283 _ c.in-283.is tt

pub returns-in-284 : goal.returns-in-284
unfolding xtime times mul powers inverse turn affine sbox
returns-in-284 c = sub-arm 284 _ c.in-284.is tt

pub returns-in-285 : goal.returns-in-285
unfolding xtime times mul powers inverse turn affine sbox
returns-in-285 c = sub-arm 285 _ c.in-285.is tt

pub returns-in-286 : goal.returns-in-286
unfolding xtime times mul powers inverse turn affine sbox
returns-in-286 c = sub-arm 286 _ c.in-286.is tt

pub returns-in-287 : goal.returns-in-287
unfolding xtime times mul powers inverse turn affine sbox
returns-in-287 c = sub-arm 287 _ c.in-287.is tt

pub returns-in-288 : goal.returns-in-288
unfolding xtime times mul powers inverse turn affine sbox
returns-in-288 c = sub-arm 288 _ c.in-288.is tt

pub returns-in-289 : goal.returns-in-289
unfolding xtime times mul powers inverse turn affine sbox
returns-in-289 c = sub-arm 289 _ c.in-289.is tt

pub returns-in-290 : goal.returns-in-290
unfolding xtime times mul powers inverse turn affine sbox
returns-in-290 c = sub-arm 290 _ c.in-290.is tt

pub returns-in-291 : goal.returns-in-291
unfolding xtime times mul powers inverse turn affine sbox
returns-in-291 c = sub-arm 291 _ c.in-291.is tt

pub returns-in-292 : goal.returns-in-292
unfolding xtime times mul powers inverse turn affine sbox
returns-in-292 c = sub-arm 292 _ c.in-292.is tt

pub returns-in-293 : goal.returns-in-293
unfolding xtime times mul powers inverse turn affine sbox
returns-in-293 c = sub-arm 293 _ c.in-293.is tt

pub returns-in-294 : goal.returns-in-294
unfolding xtime times mul powers inverse turn affine sbox
returns-in-294 c = sub-arm 294 _ c.in-294.is tt

pub returns-in-295 : goal.returns-in-295
unfolding xtime times mul powers inverse turn affine sbox
returns-in-295 c = sub-arm 295 _ c.in-295.is tt

pub returns-in-296 : goal.returns-in-296
unfolding xtime times mul powers inverse turn affine sbox
returns-in-296 c = sub-arm 296 _ c.in-296.is tt

pub returns-in-297 : goal.returns-in-297
unfolding xtime times mul powers inverse turn affine sbox
returns-in-297 c = sub-arm 297 _ c.in-297.is tt

pub returns-in-298 : goal.returns-in-298
unfolding xtime times mul powers inverse turn affine sbox
returns-in-298 c = sub-arm 298 _ c.in-298.is tt

pub returns-in-299 : goal.returns-in-299
unfolding xtime times mul powers inverse turn affine sbox
returns-in-299 c = sub-arm 299 _ c.in-299.is tt

pub returns-in-300 : goal.returns-in-300
unfolding xtime times mul powers inverse turn affine sbox
returns-in-300 c = sub-arm 300 _ c.in-300.is tt

pub returns-in-301 : goal.returns-in-301
unfolding xtime times mul powers inverse turn affine sbox
returns-in-301 c = sub-arm 301 _ c.in-301.is tt

pub returns-in-302 : goal.returns-in-302
unfolding xtime times mul powers inverse turn affine sbox
returns-in-302 c = sub-arm 302 _ c.in-302.is tt

pub returns-in-303 : goal.returns-in-303
unfolding xtime times mul powers inverse turn affine sbox
returns-in-303 c = sub-arm 303 _ c.in-303.is tt

pub returns-in-304 : goal.returns-in-304
unfolding xtime times mul powers inverse turn affine sbox
returns-in-304 c = sub-arm 304 _ c.in-304.is tt

pub returns-in-305 : goal.returns-in-305
unfolding xtime times mul powers inverse turn affine sbox
returns-in-305 c = sub-arm 305 _ c.in-305.is tt

pub returns-in-306 : goal.returns-in-306
unfolding xtime times mul powers inverse turn affine sbox
returns-in-306 c = sub-arm 306 _ c.in-306.is tt

pub returns-in-307 : goal.returns-in-307
unfolding xtime times mul powers inverse turn affine sbox
returns-in-307 c = sub-arm 307 _ c.in-307.is tt

pub returns-in-308 : goal.returns-in-308
unfolding xtime times mul powers inverse turn affine sbox
returns-in-308 c = sub-arm 308 _ c.in-308.is tt

pub returns-in-309 : goal.returns-in-309
unfolding xtime times mul powers inverse turn affine sbox
returns-in-309 c = sub-arm 309 _ c.in-309.is tt

pub returns-in-310 : goal.returns-in-310
unfolding xtime times mul powers inverse turn affine sbox
returns-in-310 c = sub-arm 310 _ c.in-310.is tt

pub returns-in-311 : goal.returns-in-311
unfolding xtime times mul powers inverse turn affine sbox
returns-in-311 c = sub-arm 311 _ c.in-311.is tt

pub returns-in-312 : goal.returns-in-312
unfolding xtime times mul powers inverse turn affine sbox
returns-in-312 c = sub-arm 312 _ c.in-312.is tt

pub returns-in-313 : goal.returns-in-313
unfolding xtime times mul powers inverse turn affine sbox
returns-in-313 c = sub-arm 313 _ c.in-313.is tt

pub returns-in-314 : goal.returns-in-314
unfolding xtime times mul powers inverse turn affine sbox
returns-in-314 c = sub-arm 314 _ c.in-314.is tt

pub returns-in-315 : goal.returns-in-315
unfolding xtime times mul powers inverse turn affine sbox
returns-in-315 c = sub-arm 315 _ c.in-315.is tt

pub returns-in-316 : goal.returns-in-316
unfolding xtime times mul powers inverse turn affine sbox
returns-in-316 c = sub-arm 316 _ c.in-316.is tt

pub returns-in-317 : goal.returns-in-317
unfolding xtime times mul powers inverse turn affine sbox
returns-in-317 c = sub-arm 317 _ c.in-317.is tt

pub returns-in-318 : goal.returns-in-318
unfolding xtime times mul powers inverse turn affine sbox
returns-in-318 c = sub-arm 318 _ c.in-318.is tt

pub returns-in-319 : goal.returns-in-319
unfolding xtime times mul powers inverse turn affine sbox
returns-in-319 c = sub-arm 319 _ c.in-319.is tt

pub returns-in-320 : goal.returns-in-320
unfolding xtime times mul powers inverse turn affine sbox
returns-in-320 c = sub-arm 320 _ c.in-320.is tt

pub returns-in-321 : goal.returns-in-321
unfolding xtime times mul powers inverse turn affine sbox
returns-in-321 c = sub-arm 321 _ c.in-321.is tt

pub returns-in-322 : goal.returns-in-322
unfolding xtime times mul powers inverse turn affine sbox
returns-in-322 c = sub-arm 322 _ c.in-322.is tt

pub returns-in-323 : goal.returns-in-323
unfolding xtime times mul powers inverse turn affine sbox
returns-in-323 c = sub-arm 323 _ c.in-323.is tt

pub returns-in-324 : goal.returns-in-324
unfolding xtime times mul powers inverse turn affine sbox
returns-in-324 c = sub-arm 324 _ c.in-324.is tt

pub returns-in-325 : goal.returns-in-325
unfolding xtime times mul powers inverse turn affine sbox
returns-in-325 c = sub-arm 325 _ c.in-325.is tt

pub returns-in-326 : goal.returns-in-326
unfolding xtime times mul powers inverse turn affine sbox
returns-in-326 c = sub-arm 326 _ c.in-326.is tt

pub returns-in-327 : goal.returns-in-327
unfolding xtime times mul powers inverse turn affine sbox
returns-in-327 c = sub-arm 327 _ c.in-327.is tt

pub returns-in-328 : goal.returns-in-328
unfolding xtime times mul powers inverse turn affine sbox
returns-in-328 c = sub-arm 328 _ c.in-328.is tt

pub returns-in-329 : goal.returns-in-329
unfolding xtime times mul powers inverse turn affine sbox
returns-in-329 c = sub-arm 329 _ c.in-329.is tt

pub returns-in-330 : goal.returns-in-330
unfolding xtime times mul powers inverse turn affine sbox
returns-in-330 c = sub-arm 330 _ c.in-330.is tt

pub returns-in-331 : goal.returns-in-331
unfolding xtime times mul powers inverse turn affine sbox
returns-in-331 c = sub-arm 331 _ c.in-331.is tt

pub returns-in-332 : goal.returns-in-332
unfolding xtime times mul powers inverse turn affine sbox
returns-in-332 c = sub-arm 332 _ c.in-332.is tt

pub returns-in-333 : goal.returns-in-333
unfolding xtime times mul powers inverse turn affine sbox
returns-in-333 c = sub-arm 333 _ c.in-333.is tt

pub returns-in-334 : goal.returns-in-334
unfolding xtime times mul powers inverse turn affine sbox
returns-in-334 c = sub-arm 334 _ c.in-334.is tt

pub returns-in-335 : goal.returns-in-335
unfolding xtime times mul powers inverse turn affine sbox
returns-in-335 c = sub-arm 335 _ c.in-335.is tt

pub returns-in-336 : goal.returns-in-336
unfolding xtime times mul powers inverse turn affine sbox
returns-in-336 c = sub-arm 336 _ c.in-336.is tt

pub returns-in-337 : goal.returns-in-337
unfolding xtime times mul powers inverse turn affine sbox
returns-in-337 c = sub-arm 337 _ c.in-337.is tt

pub returns-in-338 : goal.returns-in-338
unfolding xtime times mul powers inverse turn affine sbox
returns-in-338 c = sub-arm 338 _ c.in-338.is tt

pub returns-in-339 : goal.returns-in-339
unfolding xtime times mul powers inverse turn affine sbox
returns-in-339 c = sub-arm 339 _ c.in-339.is tt

pub returns-in-340 : goal.returns-in-340
unfolding xtime times mul powers inverse turn affine sbox
returns-in-340 c = sub-arm 340 _ c.in-340.is tt

pub returns-in-341 : goal.returns-in-341
unfolding xtime times mul powers inverse turn affine sbox
returns-in-341 c = sub-arm 341 _ c.in-341.is tt

pub returns-in-342 : goal.returns-in-342
unfolding xtime times mul powers inverse turn affine sbox
returns-in-342 c = sub-arm 342 _ c.in-342.is tt

pub returns-in-343 : goal.returns-in-343
unfolding xtime times mul powers inverse turn affine sbox
returns-in-343 c = sub-arm 343 _ c.in-343.is tt

pub returns-in-344 : goal.returns-in-344
unfolding xtime times mul powers inverse turn affine sbox
returns-in-344 c = sub-arm 344 _ c.in-344.is tt

pub returns-in-345 : goal.returns-in-345
unfolding xtime times mul powers inverse turn affine sbox
returns-in-345 c = sub-arm 345 _ c.in-345.is tt

pub returns-in-346 : goal.returns-in-346
unfolding xtime times mul powers inverse turn affine sbox
returns-in-346 c = sub-arm 346 _ c.in-346.is tt

pub returns-in-347 : goal.returns-in-347
unfolding xtime times mul powers inverse turn affine sbox
returns-in-347 c = sub-arm 347 _ c.in-347.is tt

pub returns-in-348 : goal.returns-in-348
unfolding xtime times mul powers inverse turn affine sbox
returns-in-348 c = sub-arm 348 _ c.in-348.is tt

pub returns-in-349 : goal.returns-in-349
unfolding xtime times mul powers inverse turn affine sbox
returns-in-349 c = sub-arm 349 _ c.in-349.is tt

pub returns-in-350 : goal.returns-in-350
unfolding xtime times mul powers inverse turn affine sbox
returns-in-350 c = sub-arm 350 _ c.in-350.is tt

pub returns-in-351 : goal.returns-in-351
unfolding xtime times mul powers inverse turn affine sbox
returns-in-351 c = sub-arm 351 _ c.in-351.is tt

pub returns-in-352 : goal.returns-in-352
unfolding xtime times mul powers inverse turn affine sbox
returns-in-352 c = sub-arm 352 _ c.in-352.is tt

pub returns-in-353 : goal.returns-in-353
unfolding xtime times mul powers inverse turn affine sbox
returns-in-353 c = sub-arm 353 _ c.in-353.is tt

pub returns-in-354 : goal.returns-in-354
unfolding xtime times mul powers inverse turn affine sbox
returns-in-354 c = sub-arm 354 _ c.in-354.is tt

pub returns-in-355 : goal.returns-in-355
unfolding xtime times mul powers inverse turn affine sbox
returns-in-355 c = sub-arm 355 _ c.in-355.is tt

pub returns-in-356 : goal.returns-in-356
unfolding xtime times mul powers inverse turn affine sbox
returns-in-356 c = sub-arm 356 _ c.in-356.is tt

pub returns-in-357 : goal.returns-in-357
unfolding xtime times mul powers inverse turn affine sbox
returns-in-357 c = sub-arm 357 _ c.in-357.is tt

pub returns-in-358 : goal.returns-in-358
unfolding xtime times mul powers inverse turn affine sbox
returns-in-358 c = sub-arm 358 _ c.in-358.is tt

pub returns-in-359 : goal.returns-in-359
unfolding xtime times mul powers inverse turn affine sbox
returns-in-359 c = sub-arm 359 _ c.in-359.is tt

pub returns-in-360 : goal.returns-in-360
unfolding xtime times mul powers inverse turn affine sbox
returns-in-360 c = sub-arm 360 _ c.in-360.is tt

pub returns-in-361 : goal.returns-in-361
unfolding xtime times mul powers inverse turn affine sbox
returns-in-361 c = sub-arm 361 _ c.in-361.is tt

pub returns-in-362 : goal.returns-in-362
unfolding xtime times mul powers inverse turn affine sbox
returns-in-362 c = sub-arm 362 _ c.in-362.is tt

pub returns-in-363 : goal.returns-in-363
unfolding xtime times mul powers inverse turn affine sbox
returns-in-363 c = sub-arm 363 _ c.in-363.is tt

pub returns-in-364 : goal.returns-in-364
unfolding xtime times mul powers inverse turn affine sbox
returns-in-364 c = sub-arm 364 _ c.in-364.is tt

pub returns-in-365 : goal.returns-in-365
unfolding xtime times mul powers inverse turn affine sbox
returns-in-365 c = sub-arm 365 _ c.in-365.is tt

pub returns-in-366 : goal.returns-in-366
unfolding xtime times mul powers inverse turn affine sbox
returns-in-366 c = sub-arm 366 _ c.in-366.is tt

pub returns-in-367 : goal.returns-in-367
unfolding xtime times mul powers inverse turn affine sbox
returns-in-367 c = sub-arm 367 _ c.in-367.is tt

pub returns-in-368 : goal.returns-in-368
unfolding xtime times mul powers inverse turn affine sbox
returns-in-368 c = sub-arm 368 _ c.in-368.is tt

pub returns-in-369 : goal.returns-in-369
unfolding xtime times mul powers inverse turn affine sbox
returns-in-369 c = sub-arm 369 _ c.in-369.is tt

pub returns-in-370 : goal.returns-in-370
unfolding xtime times mul powers inverse turn affine sbox
returns-in-370 c = sub-arm 370 _ c.in-370.is tt

pub returns-in-371 : goal.returns-in-371
unfolding xtime times mul powers inverse turn affine sbox
returns-in-371 c = sub-arm 371 _ c.in-371.is tt

pub returns-in-372 : goal.returns-in-372
unfolding xtime times mul powers inverse turn affine sbox
returns-in-372 c = sub-arm 372 _ c.in-372.is tt

pub returns-in-373 : goal.returns-in-373
unfolding xtime times mul powers inverse turn affine sbox
returns-in-373 c = sub-arm 373 _ c.in-373.is tt

pub returns-in-374 : goal.returns-in-374
unfolding xtime times mul powers inverse turn affine sbox
returns-in-374 c = sub-arm 374 _ c.in-374.is tt

pub returns-in-375 : goal.returns-in-375
unfolding xtime times mul powers inverse turn affine sbox
returns-in-375 c = sub-arm 375 _ c.in-375.is tt

pub returns-in-376 : goal.returns-in-376
unfolding xtime times mul powers inverse turn affine sbox
returns-in-376 c = sub-arm 376 _ c.in-376.is tt

pub returns-in-377 : goal.returns-in-377
unfolding xtime times mul powers inverse turn affine sbox
returns-in-377 c = sub-arm 377 _ c.in-377.is tt

pub returns-in-378 : goal.returns-in-378
unfolding xtime times mul powers inverse turn affine sbox
returns-in-378 c = sub-arm 378 _ c.in-378.is tt

pub returns-in-379 : goal.returns-in-379
unfolding xtime times mul powers inverse turn affine sbox
returns-in-379 c = sub-arm 379 _ c.in-379.is tt

pub returns-in-380 : goal.returns-in-380
unfolding xtime times mul powers inverse turn affine sbox
returns-in-380 c = sub-arm 380 _ c.in-380.is tt

pub returns-in-381 : goal.returns-in-381
unfolding xtime times mul powers inverse turn affine sbox
returns-in-381 c = sub-arm 381 _ c.in-381.is tt

pub returns-in-382 : goal.returns-in-382
unfolding xtime times mul powers inverse turn affine sbox
returns-in-382 c = sub-arm 382 _ c.in-382.is tt

pub returns-in-383 : goal.returns-in-383
unfolding xtime times mul powers inverse turn affine sbox
returns-in-383 c = sub-arm 383 _ c.in-383.is tt

pub returns-in-384 : goal.returns-in-384
unfolding xtime times mul powers inverse turn affine sbox
returns-in-384 c = sub-arm 384 _ c.in-384.is tt

pub returns-in-385 : goal.returns-in-385
unfolding xtime times mul powers inverse turn affine sbox
returns-in-385 c = sub-arm 385 _ c.in-385.is tt

pub returns-in-386 : goal.returns-in-386
unfolding xtime times mul powers inverse turn affine sbox
returns-in-386 c = sub-arm 386 _ c.in-386.is tt

pub returns-in-387 : goal.returns-in-387
unfolding xtime times mul powers inverse turn affine sbox
returns-in-387 c = sub-arm 387 _ c.in-387.is tt

pub returns-in-388 : goal.returns-in-388
unfolding xtime times mul powers inverse turn affine sbox
returns-in-388 c = sub-arm 388 _ c.in-388.is tt

pub returns-in-389 : goal.returns-in-389
unfolding xtime times mul powers inverse turn affine sbox
returns-in-389 c = sub-arm 389 _ c.in-389.is tt

pub returns-in-390 : goal.returns-in-390
unfolding xtime times mul powers inverse turn affine sbox
returns-in-390 c = sub-arm 390 _ c.in-390.is tt

pub returns-in-391 : goal.returns-in-391
unfolding xtime times mul powers inverse turn affine sbox
returns-in-391 c = sub-arm 391 _ c.in-391.is tt

pub returns-in-392 : goal.returns-in-392
unfolding xtime times mul powers inverse turn affine sbox
returns-in-392 c = sub-arm 392 _ c.in-392.is tt

pub returns-in-393 : goal.returns-in-393
unfolding xtime times mul powers inverse turn affine sbox
returns-in-393 c = sub-arm 393 _ c.in-393.is tt

pub returns-in-394 : goal.returns-in-394
unfolding xtime times mul powers inverse turn affine sbox
returns-in-394 c = sub-arm 394 _ c.in-394.is tt

pub returns-in-395 : goal.returns-in-395
unfolding xtime times mul powers inverse turn affine sbox
returns-in-395 c = sub-arm 395 _ c.in-395.is tt

pub returns-in-396 : goal.returns-in-396
unfolding xtime times mul powers inverse turn affine sbox
returns-in-396 c = sub-arm 396 _ c.in-396.is tt

pub returns-in-397 : goal.returns-in-397
unfolding xtime times mul powers inverse turn affine sbox
returns-in-397 c = sub-arm 397 _ c.in-397.is tt

pub returns-in-398 : goal.returns-in-398
unfolding xtime times mul powers inverse turn affine sbox
returns-in-398 c = sub-arm 398 _ c.in-398.is tt

pub returns-in-399 : goal.returns-in-399
unfolding xtime times mul powers inverse turn affine sbox
returns-in-399 c = sub-arm 399 _ c.in-399.is tt

pub returns-in-400 : goal.returns-in-400
unfolding xtime times mul powers inverse turn affine sbox
returns-in-400 c = sub-arm 400 _ c.in-400.is tt

pub returns-in-401 : goal.returns-in-401
unfolding xtime times mul powers inverse turn affine sbox
returns-in-401 c = sub-arm 401 _ c.in-401.is tt

pub returns-in-402 : goal.returns-in-402
unfolding xtime times mul powers inverse turn affine sbox
returns-in-402 c = sub-arm 402 _ c.in-402.is tt

pub returns-in-403 : goal.returns-in-403
unfolding xtime times mul powers inverse turn affine sbox
returns-in-403 c = sub-arm 403 _ c.in-403.is tt

pub returns-in-404 : goal.returns-in-404
unfolding xtime times mul powers inverse turn affine sbox
returns-in-404 c = sub-arm 404 _ c.in-404.is tt

pub returns-in-405 : goal.returns-in-405
unfolding xtime times mul powers inverse turn affine sbox
returns-in-405 c = sub-arm 405 _ c.in-405.is tt

pub returns-in-406 : goal.returns-in-406
unfolding xtime times mul powers inverse turn affine sbox
returns-in-406 c = sub-arm 406 _ c.in-406.is tt

pub returns-in-407 : goal.returns-in-407
unfolding xtime times mul powers inverse turn affine sbox
returns-in-407 c = sub-arm 407 _ c.in-407.is tt

pub returns-in-408 : goal.returns-in-408
unfolding xtime times mul powers inverse turn affine sbox
returns-in-408 c = sub-arm 408 _ c.in-408.is tt

pub returns-in-409 : goal.returns-in-409
unfolding xtime times mul powers inverse turn affine sbox
returns-in-409 c = sub-arm 409 _ c.in-409.is tt

pub returns-in-410 : goal.returns-in-410
unfolding xtime times mul powers inverse turn affine sbox
returns-in-410 c = sub-arm 410 _ c.in-410.is tt

pub returns-in-411 : goal.returns-in-411
unfolding xtime times mul powers inverse turn affine sbox
returns-in-411 c = sub-arm 411 _ c.in-411.is tt

pub returns-in-412 : goal.returns-in-412
unfolding xtime times mul powers inverse turn affine sbox
returns-in-412 c = sub-arm 412 _ c.in-412.is tt

pub returns-in-413 : goal.returns-in-413
unfolding xtime times mul powers inverse turn affine sbox
returns-in-413 c = sub-arm 413 _ c.in-413.is tt

pub returns-in-414 : goal.returns-in-414
unfolding xtime times mul powers inverse turn affine sbox
returns-in-414 c = sub-arm 414 _ c.in-414.is tt

pub returns-in-415 : goal.returns-in-415
unfolding xtime times mul powers inverse turn affine sbox
returns-in-415 c = sub-arm 415 _ c.in-415.is tt

pub returns-in-416 : goal.returns-in-416
unfolding xtime times mul powers inverse turn affine sbox
returns-in-416 c = sub-arm 416 _ c.in-416.is tt

pub returns-in-417 : goal.returns-in-417
unfolding xtime times mul powers inverse turn affine sbox
returns-in-417 c = sub-arm 417 _ c.in-417.is tt

pub returns-in-418 : goal.returns-in-418
unfolding xtime times mul powers inverse turn affine sbox
returns-in-418 c = sub-arm 418 _ c.in-418.is tt

pub returns-in-419 : goal.returns-in-419
unfolding xtime times mul powers inverse turn affine sbox
returns-in-419 c = sub-arm 419 _ c.in-419.is tt

pub returns-in-420 : goal.returns-in-420
unfolding xtime times mul powers inverse turn affine sbox
returns-in-420 c = sub-arm 420 _ c.in-420.is tt

pub returns-in-421 : goal.returns-in-421
unfolding xtime times mul powers inverse turn affine sbox
returns-in-421 c = sub-arm 421 _ c.in-421.is tt

pub returns-in-422 : goal.returns-in-422
unfolding xtime times mul powers inverse turn affine sbox
returns-in-422 c = sub-arm 422 _ c.in-422.is tt

pub returns-in-423 : goal.returns-in-423
unfolding xtime times mul powers inverse turn affine sbox
returns-in-423 c = sub-arm 423 _ c.in-423.is tt

pub returns-in-424 : goal.returns-in-424
unfolding xtime times mul powers inverse turn affine sbox
returns-in-424 c = sub-arm 424 _ c.in-424.is tt

pub returns-in-425 : goal.returns-in-425
unfolding xtime times mul powers inverse turn affine sbox
returns-in-425 c = sub-arm 425 _ c.in-425.is tt

pub returns-in-426 : goal.returns-in-426
unfolding xtime times mul powers inverse turn affine sbox
returns-in-426 c = sub-arm 426 _ c.in-426.is tt

pub returns-in-427 : goal.returns-in-427
unfolding xtime times mul powers inverse turn affine sbox
returns-in-427 c = sub-arm 427 _ c.in-427.is tt

pub returns-in-428 : goal.returns-in-428
unfolding xtime times mul powers inverse turn affine sbox
returns-in-428 c = sub-arm 428 _ c.in-428.is tt

pub returns-in-429 : goal.returns-in-429
unfolding xtime times mul powers inverse turn affine sbox
returns-in-429 c = sub-arm 429 _ c.in-429.is tt

pub returns-in-430 : goal.returns-in-430
unfolding xtime times mul powers inverse turn affine sbox
returns-in-430 c = sub-arm 430 _ c.in-430.is tt

pub returns-in-431 : goal.returns-in-431
unfolding xtime times mul powers inverse turn affine sbox
returns-in-431 c = sub-arm 431 _ c.in-431.is tt

pub returns-in-432 : goal.returns-in-432
unfolding xtime times mul powers inverse turn affine sbox
returns-in-432 c = sub-arm 432 _ c.in-432.is tt

pub returns-in-433 : goal.returns-in-433
unfolding xtime times mul powers inverse turn affine sbox
returns-in-433 c = sub-arm 433 _ c.in-433.is tt

pub returns-in-434 : goal.returns-in-434
unfolding xtime times mul powers inverse turn affine sbox
returns-in-434 c = sub-arm 434 _ c.in-434.is tt

pub returns-in-435 : goal.returns-in-435
unfolding xtime times mul powers inverse turn affine sbox
returns-in-435 c = sub-arm 435 _ c.in-435.is tt

pub returns-in-436 : goal.returns-in-436
unfolding xtime times mul powers inverse turn affine sbox
returns-in-436 c = sub-arm 436 _ c.in-436.is tt

pub returns-in-437 : goal.returns-in-437
unfolding xtime times mul powers inverse turn affine sbox
returns-in-437 c = sub-arm 437 _ c.in-437.is tt

pub returns-in-438 : goal.returns-in-438
unfolding xtime times mul powers inverse turn affine sbox
returns-in-438 c = sub-arm 438 _ c.in-438.is tt

pub returns-in-439 : goal.returns-in-439
unfolding xtime times mul powers inverse turn affine sbox
returns-in-439 c = sub-arm 439 _ c.in-439.is tt

pub returns-in-440 : goal.returns-in-440
unfolding xtime times mul powers inverse turn affine sbox
returns-in-440 c = sub-arm 440 _ c.in-440.is tt

pub returns-in-441 : goal.returns-in-441
unfolding xtime times mul powers inverse turn affine sbox
returns-in-441 c = sub-arm 441 _ c.in-441.is tt

pub returns-in-442 : goal.returns-in-442
unfolding xtime times mul powers inverse turn affine sbox
returns-in-442 c = sub-arm 442 _ c.in-442.is tt

pub returns-in-443 : goal.returns-in-443
unfolding xtime times mul powers inverse turn affine sbox
returns-in-443 c = sub-arm 443 _ c.in-443.is tt

pub returns-in-444 : goal.returns-in-444
unfolding xtime times mul powers inverse turn affine sbox
returns-in-444 c = sub-arm 444 _ c.in-444.is tt

pub returns-in-445 : goal.returns-in-445
unfolding xtime times mul powers inverse turn affine sbox
returns-in-445 c = sub-arm 445 _ c.in-445.is tt

pub returns-in-446 : goal.returns-in-446
unfolding xtime times mul powers inverse turn affine sbox
returns-in-446 c = sub-arm 446 _ c.in-446.is tt

pub returns-in-447 : goal.returns-in-447
unfolding xtime times mul powers inverse turn affine sbox
returns-in-447 c = sub-arm 447 _ c.in-447.is tt

pub returns-in-448 : goal.returns-in-448
unfolding xtime times mul powers inverse turn affine sbox
returns-in-448 c = sub-arm 448 _ c.in-448.is tt

pub returns-in-449 : goal.returns-in-449
unfolding xtime times mul powers inverse turn affine sbox
returns-in-449 c = sub-arm 449 _ c.in-449.is tt

pub returns-in-450 : goal.returns-in-450
unfolding xtime times mul powers inverse turn affine sbox
returns-in-450 c = sub-arm 450 _ c.in-450.is tt

pub returns-in-451 : goal.returns-in-451
unfolding xtime times mul powers inverse turn affine sbox
returns-in-451 c = sub-arm 451 _ c.in-451.is tt

pub returns-in-452 : goal.returns-in-452
unfolding xtime times mul powers inverse turn affine sbox
returns-in-452 c = sub-arm 452 _ c.in-452.is tt

pub returns-in-453 : goal.returns-in-453
unfolding xtime times mul powers inverse turn affine sbox
returns-in-453 c = sub-arm 453 _ c.in-453.is tt

pub returns-in-454 : goal.returns-in-454
unfolding xtime times mul powers inverse turn affine sbox
returns-in-454 c = sub-arm 454 _ c.in-454.is tt

pub returns-in-455 : goal.returns-in-455
unfolding xtime times mul powers inverse turn affine sbox
returns-in-455 c = sub-arm 455 _ c.in-455.is tt

pub returns-in-456 : goal.returns-in-456
unfolding xtime times mul powers inverse turn affine sbox
returns-in-456 c = sub-arm 456 _ c.in-456.is tt

pub returns-in-457 : goal.returns-in-457
unfolding xtime times mul powers inverse turn affine sbox
returns-in-457 c = sub-arm 457 _ c.in-457.is tt

pub returns-in-458 : goal.returns-in-458
unfolding xtime times mul powers inverse turn affine sbox
returns-in-458 c = sub-arm 458 _ c.in-458.is tt

pub returns-in-459 : goal.returns-in-459
unfolding xtime times mul powers inverse turn affine sbox
returns-in-459 c = sub-arm 459 _ c.in-459.is tt

pub returns-in-460 : goal.returns-in-460
unfolding xtime times mul powers inverse turn affine sbox
returns-in-460 c = sub-arm 460 _ c.in-460.is tt

pub returns-in-461 : goal.returns-in-461
unfolding xtime times mul powers inverse turn affine sbox
returns-in-461 c = sub-arm 461 _ c.in-461.is tt

pub returns-in-462 : goal.returns-in-462
unfolding xtime times mul powers inverse turn affine sbox
returns-in-462 c = sub-arm 462 _ c.in-462.is tt

pub returns-in-463 : goal.returns-in-463
unfolding xtime times mul powers inverse turn affine sbox
returns-in-463 c = sub-arm 463 _ c.in-463.is tt

pub returns-in-464 : goal.returns-in-464
unfolding xtime times mul powers inverse turn affine sbox
returns-in-464 c = sub-arm 464 _ c.in-464.is tt

pub returns-in-465 : goal.returns-in-465
unfolding xtime times mul powers inverse turn affine sbox
returns-in-465 c = sub-arm 465 _ c.in-465.is tt

pub returns-in-466 : goal.returns-in-466
unfolding xtime times mul powers inverse turn affine sbox
returns-in-466 c = sub-arm 466 _ c.in-466.is tt

pub returns-in-467 : goal.returns-in-467
unfolding xtime times mul powers inverse turn affine sbox
returns-in-467 c = sub-arm 467 _ c.in-467.is tt

pub returns-in-468 : goal.returns-in-468
unfolding xtime times mul powers inverse turn affine sbox
returns-in-468 c = sub-arm 468 _ c.in-468.is tt

pub returns-in-469 : goal.returns-in-469
unfolding xtime times mul powers inverse turn affine sbox
returns-in-469 c = sub-arm 469 _ c.in-469.is tt

pub returns-in-470 : goal.returns-in-470
unfolding xtime times mul powers inverse turn affine sbox
returns-in-470 c = sub-arm 470 _ c.in-470.is tt

pub returns-in-471 : goal.returns-in-471
unfolding xtime times mul powers inverse turn affine sbox
returns-in-471 c = sub-arm 471 _ c.in-471.is tt

pub returns-in-472 : goal.returns-in-472
unfolding xtime times mul powers inverse turn affine sbox
returns-in-472 c = sub-arm 472 _ c.in-472.is tt

pub returns-in-473 : goal.returns-in-473
unfolding xtime times mul powers inverse turn affine sbox
returns-in-473 c = sub-arm 473 _ c.in-473.is tt

pub returns-in-474 : goal.returns-in-474
unfolding xtime times mul powers inverse turn affine sbox
returns-in-474 c = sub-arm 474 _ c.in-474.is tt

pub returns-in-475 : goal.returns-in-475
unfolding xtime times mul powers inverse turn affine sbox
returns-in-475 c = sub-arm 475 _ c.in-475.is tt

pub returns-in-476 : goal.returns-in-476
unfolding xtime times mul powers inverse turn affine sbox
returns-in-476 c = sub-arm 476 _ c.in-476.is tt

pub returns-in-477 : goal.returns-in-477
unfolding xtime times mul powers inverse turn affine sbox
returns-in-477 c = sub-arm 477 _ c.in-477.is tt

pub returns-in-478 : goal.returns-in-478
unfolding xtime times mul powers inverse turn affine sbox
returns-in-478 c = sub-arm 478 _ c.in-478.is tt

pub returns-in-479 : goal.returns-in-479
unfolding xtime times mul powers inverse turn affine sbox
returns-in-479 c = sub-arm 479 _ c.in-479.is tt

pub returns-in-480 : goal.returns-in-480
unfolding xtime times mul powers inverse turn affine sbox
returns-in-480 c = sub-arm 480 _ c.in-480.is tt

pub returns-in-481 : goal.returns-in-481
unfolding xtime times mul powers inverse turn affine sbox
returns-in-481 c = sub-arm 481 _ c.in-481.is tt

pub returns-in-482 : goal.returns-in-482
unfolding xtime times mul powers inverse turn affine sbox
returns-in-482 c = sub-arm 482 _ c.in-482.is tt

pub returns-in-483 : goal.returns-in-483
unfolding xtime times mul powers inverse turn affine sbox
returns-in-483 c = sub-arm 483 _ c.in-483.is tt

pub returns-in-484 : goal.returns-in-484
unfolding xtime times mul powers inverse turn affine sbox
returns-in-484 c = sub-arm 484 _ c.in-484.is tt

pub returns-in-485 : goal.returns-in-485
unfolding xtime times mul powers inverse turn affine sbox
returns-in-485 c = sub-arm 485 _ c.in-485.is tt

pub returns-in-486 : goal.returns-in-486
unfolding xtime times mul powers inverse turn affine sbox
returns-in-486 c = sub-arm 486 _ c.in-486.is tt

pub returns-in-487 : goal.returns-in-487
unfolding xtime times mul powers inverse turn affine sbox
returns-in-487 c = sub-arm 487 _ c.in-487.is tt

pub returns-in-488 : goal.returns-in-488
unfolding xtime times mul powers inverse turn affine sbox
returns-in-488 c = sub-arm 488 _ c.in-488.is tt

pub returns-in-489 : goal.returns-in-489
unfolding xtime times mul powers inverse turn affine sbox
returns-in-489 c = sub-arm 489 _ c.in-489.is tt

pub returns-in-490 : goal.returns-in-490
unfolding xtime times mul powers inverse turn affine sbox
returns-in-490 c = sub-arm 490 _ c.in-490.is tt

pub returns-in-491 : goal.returns-in-491
unfolding xtime times mul powers inverse turn affine sbox
returns-in-491 c = sub-arm 491 _ c.in-491.is tt

pub returns-in-492 : goal.returns-in-492
unfolding xtime times mul powers inverse turn affine sbox
returns-in-492 c = sub-arm 492 _ c.in-492.is tt

pub returns-in-493 : goal.returns-in-493
unfolding xtime times mul powers inverse turn affine sbox
returns-in-493 c = sub-arm 493 _ c.in-493.is tt

pub returns-in-494 : goal.returns-in-494
unfolding xtime times mul powers inverse turn affine sbox
returns-in-494 c = sub-arm 494 _ c.in-494.is tt

pub returns-in-495 : goal.returns-in-495
unfolding xtime times mul powers inverse turn affine sbox
returns-in-495 c = sub-arm 495 _ c.in-495.is tt

pub returns-in-496 : goal.returns-in-496
unfolding xtime times mul powers inverse turn affine sbox
returns-in-496 c = sub-arm 496 _ c.in-496.is tt

pub returns-in-497 : goal.returns-in-497
unfolding xtime times mul powers inverse turn affine sbox
returns-in-497 c = sub-arm 497 _ c.in-497.is tt

pub returns-in-498 : goal.returns-in-498
unfolding xtime times mul powers inverse turn affine sbox
returns-in-498 c = sub-arm 498 _ c.in-498.is tt

pub returns-in-499 : goal.returns-in-499
unfolding xtime times mul powers inverse turn affine sbox
returns-in-499 c = sub-arm 499 _ c.in-499.is tt

pub returns-in-500 : goal.returns-in-500
unfolding xtime times mul powers inverse turn affine sbox
returns-in-500 c = sub-arm 500 _ c.in-500.is tt

pub returns-in-501 : goal.returns-in-501
unfolding xtime times mul powers inverse turn affine sbox
returns-in-501 c = sub-arm 501 _ c.in-501.is tt

pub returns-in-502 : goal.returns-in-502
unfolding xtime times mul powers inverse turn affine sbox
returns-in-502 c = sub-arm 502 _ c.in-502.is tt

pub returns-in-503 : goal.returns-in-503
unfolding xtime times mul powers inverse turn affine sbox
returns-in-503 c = sub-arm 503 _ c.in-503.is tt

pub returns-in-504 : goal.returns-in-504
unfolding xtime times mul powers inverse turn affine sbox
returns-in-504 c = sub-arm 504 _ c.in-504.is tt

pub returns-in-505 : goal.returns-in-505
unfolding xtime times mul powers inverse turn affine sbox
returns-in-505 c = sub-arm 505 _ c.in-505.is tt

pub returns-in-506 : goal.returns-in-506
unfolding xtime times mul powers inverse turn affine sbox
returns-in-506 c = sub-arm 506 _ c.in-506.is tt

pub returns-in-507 : goal.returns-in-507
unfolding xtime times mul powers inverse turn affine sbox
returns-in-507 c = sub-arm 507 _ c.in-507.is tt

pub returns-in-508 : goal.returns-in-508
unfolding xtime times mul powers inverse turn affine sbox
returns-in-508 c = sub-arm 508 _ c.in-508.is tt

pub returns-in-509 : goal.returns-in-509
unfolding xtime times mul powers inverse turn affine sbox
returns-in-509 c = sub-arm 509 _ c.in-509.is tt

pub returns-in-510 : goal.returns-in-510
unfolding xtime times mul powers inverse turn affine sbox
returns-in-510 c = sub-arm 510 _ c.in-510.is tt

pub returns-in_default : goal.returns-in_default
unfolding xtime times mul powers inverse turn affine sbox
returns-in_default c =
    let e : c.args.x + 256 ≡ 511 = omega arith in
    sub-arm 511 _ e tt
